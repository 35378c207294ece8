pub mod Configured
pub mod MeetLemmas
pub mod MetNodes
pub mod MovedStores
pub mod OutsideLocks
pub mod SettledNodes
pub mod StampNumbers
