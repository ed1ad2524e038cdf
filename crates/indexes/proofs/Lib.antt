pub mod Rise
pub mod Places
pub mod Checks
pub mod Merging
pub mod Slots
pub mod Rules
