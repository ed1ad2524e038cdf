pub mod Changed
pub mod Placed
pub mod Prefixes
pub mod Tests
pub mod Rules
