pub mod Inserts
pub mod Rules
