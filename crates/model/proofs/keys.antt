pub mod CommonRun
pub mod Order
pub mod Parts
pub mod Key
pub mod ChangePrefix
