pub mod Answers
pub mod BoundedMap
pub mod Linked
pub mod Places
