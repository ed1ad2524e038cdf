pub mod Beyond
pub mod Rules
