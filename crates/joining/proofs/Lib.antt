pub mod Joins
pub mod Rules
