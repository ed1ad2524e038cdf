pub mod Writes
pub mod Rules
