pub mod Counting
pub mod Ending
pub mod Load
pub mod Refusing
