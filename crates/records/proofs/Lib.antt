pub mod Writing
pub mod JoinedKeys
