pub mod ShelfList
