pub mod Gathering
pub mod HexLemmas
pub mod LineLemmas
pub mod NumberLemmas
pub mod Reading
pub mod TextLaws
pub mod Writing
mod OutsideExamples
mod WordExamples
