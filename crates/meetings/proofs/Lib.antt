pub mod Meets
pub mod Checks
pub mod Rules
