pub mod ShelfList
pub mod Length
pub mod Fields
pub mod Lossless
