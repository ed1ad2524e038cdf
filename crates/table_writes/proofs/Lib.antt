pub mod Room
pub mod Rules
