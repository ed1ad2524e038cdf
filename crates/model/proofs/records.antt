pub mod Record
pub mod Records
pub mod InTurn
