pub mod Each
pub mod Calls
