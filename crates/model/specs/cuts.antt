pub mod Cuts
pub mod Sides
pub mod Insertion
pub mod Join
pub mod TwoOrders
pub mod Inserted
pub mod Joined
