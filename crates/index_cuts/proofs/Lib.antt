pub mod Refused
pub mod Sides
pub mod Rules
