pub mod Acknowledged
pub mod Example
pub mod Promise
