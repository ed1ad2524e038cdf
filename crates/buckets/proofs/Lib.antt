pub mod Good
pub mod OneEntry
pub mod Writing
pub mod Appending
pub mod Renaming
pub mod Rules
