pub mod Deciding
pub mod FillLemmas
pub use Rattle.list_prefix.proofs as list_prefix_lemmas
