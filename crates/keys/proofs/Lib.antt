pub mod Elements
pub mod Padded
pub mod Rules
