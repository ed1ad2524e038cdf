pub mod Holding
pub mod Merged
pub mod Renamed
pub mod Slots
pub mod Rules
