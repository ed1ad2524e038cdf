pub mod PrefixSet
pub mod PairState
pub mod PairRecord
pub mod Translation
pub mod Renaming
pub mod ParentChild
