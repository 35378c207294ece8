pub mod Config
pub mod Object
pub mod Regions
pub mod Types
