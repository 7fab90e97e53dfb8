pub mod CaptureSinkLemmas
pub mod MemSinkLemmas
pub mod RackLemmas
pub mod SinkLaws
mod SinkExamples
