pub mod Walk
pub mod WalkRecord
