pub mod Hands
pub mod Pumps
