mod Examples
pub mod Entries
pub mod Walk
pub mod Spelled
pub mod Reading
pub mod HeaderLaws
pub mod ListLaws
pub mod ObjectLaws
pub mod CapabilityLaws
pub mod CommandLaws
pub mod Writing
pub mod ReadBack
pub mod Cuts
pub mod FaultLaws
pub mod ReplyLaws
pub mod SizeLaws
