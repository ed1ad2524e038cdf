pub mod Inputs
pub mod Rules
