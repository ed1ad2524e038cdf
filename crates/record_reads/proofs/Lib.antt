pub mod Reading
pub mod Rules
