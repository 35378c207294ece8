pub mod LeaderAsking
pub mod LeaderMerges
pub mod LeaderTurns
pub mod Looking
pub mod Reasons
pub mod Turns
pub use Rattle.shared_stores.proofs as shared_stores_lemmas
