pub mod Edges
pub mod FarJobs
pub mod Refusals
pub mod Touching
