pub mod Locked
pub mod LockedLaws
