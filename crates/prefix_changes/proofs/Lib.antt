pub mod Changing
pub mod Rules
