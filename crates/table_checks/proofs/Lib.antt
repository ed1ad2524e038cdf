pub mod Counts
pub mod EdgePass
pub mod Table
pub mod Rules
