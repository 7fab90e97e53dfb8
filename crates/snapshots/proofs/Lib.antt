pub mod Beginnings
pub mod Closing
pub mod Logging
pub mod Adding
pub mod Reading
pub mod Seating
pub mod Publishing
pub mod Openings
