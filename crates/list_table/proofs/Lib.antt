pub mod Whole
pub mod Rules
