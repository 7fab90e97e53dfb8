mod AnswerLemmas
pub mod DeviceLemmas
