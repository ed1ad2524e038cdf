pub mod Telling
pub mod Rules
