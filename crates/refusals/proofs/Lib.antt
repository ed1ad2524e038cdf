pub mod InStep
pub mod Rules
