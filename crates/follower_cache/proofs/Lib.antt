pub mod Queued
pub use Rattle.cache_node.proofs as cache_node_lemmas
