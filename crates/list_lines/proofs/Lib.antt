pub mod SlotLines
pub mod Rules
