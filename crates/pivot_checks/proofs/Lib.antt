pub mod Counts
pub mod PivotPass
pub mod Rules
