pub mod Filled
pub mod Rules
