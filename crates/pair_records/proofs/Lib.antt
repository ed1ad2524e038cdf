pub mod Applying
pub mod ByState
pub mod Rules
