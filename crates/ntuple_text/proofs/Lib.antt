mod TableExamples
mod TextExamples
mod ValueExamples
pub mod AddressLemmas
pub mod DigitLemmas
pub mod EndReadBack
pub mod FieldsReadBack
pub mod FlowFields
pub mod GapLemmas
pub mod Ipv6Lemmas
pub mod LineReadBack
pub mod NumeralLemmas
pub mod OptionSteps
pub mod PairsLemmas
pub mod PieceLemmas
pub mod PlainLemmas
pub mod RangeLemmas
pub mod ReadBackLemmas
pub mod ReadLemmas
pub mod SlotLemmas
pub mod SpecLines
pub mod SpellableLemmas
pub mod StepLemmas
pub mod TableLemmas
pub mod TableReadBack
pub mod TextLengths
pub mod ValuesReadBack
pub mod WordsReadBack
