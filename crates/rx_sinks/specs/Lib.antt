pub mod CaptureSinks
pub mod CountSinks
pub mod MemSinks
pub mod Racks
pub mod Sinks
