pub mod Getting
pub mod Starting
pub mod Rules
