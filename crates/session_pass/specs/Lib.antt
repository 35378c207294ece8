pub mod Floors
pub mod PassView
pub mod Passes
