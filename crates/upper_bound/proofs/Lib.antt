pub mod Down
pub mod Raising
pub mod Rules
