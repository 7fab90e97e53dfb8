pub mod EntryLemmas
pub mod CountedLemmas
pub mod LoopLemmas
pub mod StoreLemmas
pub mod RuleLemmas
