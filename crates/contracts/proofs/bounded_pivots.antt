pub mod Tables
pub mod Questions
pub mod Keys
pub mod Slots
pub mod Cuts
pub mod Lemmas
pub mod Insertion
