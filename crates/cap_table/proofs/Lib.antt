mod Examples
mod CapExamples
mod MachineExamples
pub mod OpcodeLemmas
pub mod SettingLemmas
pub mod CapResultLemmas
pub mod RowLemmas
pub mod AcceptedChanges
pub mod EveryAnswer
pub mod ReadCommands
pub mod ObeyedCommands
pub mod ObjectRuns
pub mod UndoneCreates
pub mod KeptObjects
pub mod AllowedSets
pub mod ValidSteps
