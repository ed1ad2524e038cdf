pub mod Placing
pub mod Inserting
pub mod Rules
