pub mod Key
pub mod Order
