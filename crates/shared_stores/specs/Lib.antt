pub mod Asked
pub mod Locked
pub mod Making
pub mod Owed
pub mod PastBound
pub use Rattle.node_stages.specs as node_stages
