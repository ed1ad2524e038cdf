pub mod Refuses
pub mod BoundedPivots
pub mod Translation
pub mod BucketLists
