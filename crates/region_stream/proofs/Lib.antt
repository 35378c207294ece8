pub mod AgreeLemmas
pub mod OpenLemmas
