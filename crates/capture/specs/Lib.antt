pub mod Sizes
pub mod FileHeaders
pub mod Records
pub mod Captures
pub mod Pieces
pub mod Feeds
pub mod Files
