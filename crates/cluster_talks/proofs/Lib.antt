pub mod AnswerLemmas
pub mod ReadsLemmas
pub mod StepLemmas
pub mod TalkedLemmas
