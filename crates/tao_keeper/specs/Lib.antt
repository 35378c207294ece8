pub mod Cuts
pub mod FailText
pub mod Given
pub mod Growing
pub mod KeeperState
pub mod Table
pub use Rattle.graph_model.specs as graph_model
