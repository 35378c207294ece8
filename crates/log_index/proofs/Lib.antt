pub mod Ids
pub mod IndexLemmas
pub mod KeyLemmas
pub mod PositionLemmas
pub mod Versions
