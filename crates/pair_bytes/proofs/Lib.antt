pub mod Lengths
pub mod Placing
pub mod Reading
pub mod Rules
