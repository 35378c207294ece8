pub mod Count
pub mod Planned
