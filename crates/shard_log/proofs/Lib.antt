pub mod Beginnings
pub mod GrowthLemmas
pub mod KeptLemmas
pub mod SeatLemmas
pub mod Steps
pub use Rattle.graph_model.proofs as graph_model_lemmas
