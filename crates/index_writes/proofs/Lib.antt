pub mod Places
pub mod Room
pub mod Rules
