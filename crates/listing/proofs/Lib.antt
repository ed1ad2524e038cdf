pub mod Listed
pub mod Rules
