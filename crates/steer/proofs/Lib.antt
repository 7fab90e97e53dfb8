mod Examples
mod LiveExamples
pub mod AdminLemmas
pub mod CarryLemmas
pub mod ChainLemmas
pub mod LegalRuns
pub mod LiveCommandLemmas
pub mod LiveLemmas
pub mod MergeLemmas
pub mod OpenLists
pub mod PieceLemmas
pub mod QueueLemmas
pub mod ReadLemmas
pub mod RoundLemmas
pub mod RowLemmas
pub mod ShareLemmas
