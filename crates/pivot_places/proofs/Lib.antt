pub mod Placing
pub mod Rules
