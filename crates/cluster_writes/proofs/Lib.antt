pub mod LearntNotes
pub mod StageLemmas
pub mod StepLemmas
pub mod ToldWrites
pub mod WholeWrites
