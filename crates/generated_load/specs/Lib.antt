pub mod Draws
pub mod DrawnTables
pub mod DrawnFrames
pub mod Counts
