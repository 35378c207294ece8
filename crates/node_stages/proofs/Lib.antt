pub mod LeaderGave
pub mod NotesSeen
pub mod Queueing
pub mod RestLemmas
pub use Rattle.core_model.proofs as core_model_lemmas
