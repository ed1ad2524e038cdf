pub mod Pairing
pub mod Translating
pub mod Rules
