pub mod CaptureLemmas
pub mod Choices
pub mod CaptureLaws
pub mod FaultLaws
pub mod HeaderLaws
pub mod RecordLaws
pub mod PieceLemmas
pub mod RecordLemmas
mod CaptureExamples
pub mod FeedLaws
pub mod FeedSteps
pub mod FileSteps
