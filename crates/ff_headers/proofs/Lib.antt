mod Examples
mod FrameExamples
pub mod Rising
pub mod ShapeLemmas
pub mod MatchingLemmas
pub mod FieldLemmas
pub mod FrameLemmas
pub mod CutLemmas
pub mod EntryLemmas
pub mod OrderLemmas
pub mod PlaceLemmas
pub mod ChangeLemmas
