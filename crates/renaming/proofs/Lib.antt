pub mod NewPivots
pub mod GivenEnd
pub mod Rules
