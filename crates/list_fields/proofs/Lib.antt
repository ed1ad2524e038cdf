pub mod Texts
pub mod Rules
