pub mod DoneLemmas
pub mod MergeCommits
pub mod MergeLemmas
pub mod OpenLemmas
pub mod ReadLemmas
pub mod SlaveLemmas
pub mod Standing
pub mod WriteCommits
pub mod WriteLemmas
pub mod WriteSteps
pub use Rattle.master_tables.proofs as master_tables_lemmas
