pub mod LastVersions
pub mod LeaderNames
pub mod LinkLemmas
pub mod MergeLemmas
pub mod PostsLemmas
pub mod ReadLemmas
pub mod ReachLemmas
pub mod RelayLemmas
pub mod Repeats
pub mod StepLemmas
pub mod StreamLemmas
pub mod StreamSteps
pub mod NotifyLemmas
pub mod WriteLemmas
pub use Rattle.core_mail.proofs as core_mail_lemmas
pub use Rattle.core_nodes.proofs as core_nodes_lemmas
