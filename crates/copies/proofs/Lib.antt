pub mod Turns
pub mod Copying
