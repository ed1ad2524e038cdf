pub mod Shared
pub mod Cuts
pub mod Ranges
pub mod Pairs
pub mod PivotPair
pub mod Renaming
pub mod Buckets
