pub mod Adding
pub mod Seen
pub mod Tallies
pub mod Turns
pub mod Workloads
