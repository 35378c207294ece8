pub mod Hands
pub mod Pumping
