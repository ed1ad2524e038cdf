pub mod Places
pub mod Insertable
pub mod Routing
pub mod NewPivot
pub mod Slots
pub mod SlotPrefix
