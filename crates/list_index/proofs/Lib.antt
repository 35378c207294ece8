pub mod KeyLemmas
pub mod StandingLemmas
