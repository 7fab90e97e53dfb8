pub mod DrawLemmas
pub mod TableLemmas
pub mod CountLemmas
pub mod ShapeLemmas
pub mod RoomLemmas
mod DrawnExamples
