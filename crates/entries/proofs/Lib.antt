pub mod Places
pub mod Counts
pub mod Checking
pub mod Keys
pub mod Rules
