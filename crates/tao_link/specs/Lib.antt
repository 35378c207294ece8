pub mod Cuts
pub mod Planned
pub mod Shown
pub mod Switch
