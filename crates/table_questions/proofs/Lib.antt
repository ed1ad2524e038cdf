pub mod Ends
pub mod Rules
