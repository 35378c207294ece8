pub mod CoverLaws
pub mod Examples
pub mod Machine
pub mod MergeLaws
pub mod Merges
pub mod Steps
pub mod WriteLaws
pub mod Writes
