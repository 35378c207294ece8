pub mod Calls
pub mod Exactly
pub use Rattle.cluster_closing.specs as cluster_closing
pub use Rattle.cluster_closing.specs.cluster_opening
pub use Rattle.cluster_pumps.specs as cluster_pumps
pub use Rattle.cluster_closing.specs.locked_nodes
