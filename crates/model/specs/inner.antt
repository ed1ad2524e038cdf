pub mod Places
pub mod EdgeKinds
pub mod Written
pub mod CutSlot
