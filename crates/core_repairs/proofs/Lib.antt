mod RepairLemmas
mod RunLemmas
mod StreamEnds
pub use Rattle.core_steps.proofs as core_steps_lemmas
