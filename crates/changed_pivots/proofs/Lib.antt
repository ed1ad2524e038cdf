pub mod KeyPass
pub mod Given
pub mod Rules
