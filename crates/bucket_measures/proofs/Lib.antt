pub mod Counts
pub mod OneKept
pub mod Measuring
pub mod Causes
pub mod Rules
