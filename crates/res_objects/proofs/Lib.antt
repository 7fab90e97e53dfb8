pub mod CreateAnswer
mod Examples
pub mod FreeList
pub mod Linked
pub mod Objects
pub mod Places
