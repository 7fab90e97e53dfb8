pub mod Changes
pub mod Bytes
