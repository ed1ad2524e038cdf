pub mod Counting
pub mod Placing
pub mod Causes
pub mod Rules
