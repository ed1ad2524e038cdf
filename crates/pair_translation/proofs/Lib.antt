pub mod Lengths
pub mod Rules
