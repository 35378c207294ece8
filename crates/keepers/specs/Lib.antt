pub mod KeeperLaws
pub mod Shown
pub mod Steady
