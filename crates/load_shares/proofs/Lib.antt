pub mod Additions
pub mod Shared
pub mod WorkloadCalls
