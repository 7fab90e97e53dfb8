pub mod Counts
pub mod LimitedObjects
pub mod Stores
