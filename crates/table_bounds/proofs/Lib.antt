pub mod Fitting
pub mod Rules
