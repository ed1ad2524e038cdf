pub mod PrefixSet
pub mod PairState
pub mod PairRecord
pub mod PivotPair
pub mod Renaming
pub mod ParentChild
