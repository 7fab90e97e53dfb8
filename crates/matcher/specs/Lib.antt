pub mod Tables
pub mod Findings
pub mod Candidates
pub mod Keys
pub mod Rows
pub mod Indexes
pub mod Searches
pub mod Comparisons
