pub mod Counted
pub mod Examples
pub mod Few
pub mod Ids
pub mod LeftLemmas
pub mod NodeLemmas
pub mod Numbered
pub mod Steps
