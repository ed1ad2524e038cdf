pub mod KeyOf
pub mod Rules
