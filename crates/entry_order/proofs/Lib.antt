pub mod Entries
pub mod Rise
pub mod Checks
pub mod Rules
