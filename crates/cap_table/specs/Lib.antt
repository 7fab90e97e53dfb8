pub mod Caps
pub mod CapSets
pub mod CapResults
pub mod States
pub mod Statuses
pub mod Verdicts
pub mod Answers
pub mod Steps
