pub mod ByWords
pub mod BigWords
pub mod Zeros
pub mod Counts
pub mod Scan
pub mod Beginning
