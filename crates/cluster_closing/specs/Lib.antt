pub mod Closing
pub mod Freeing
pub use Rattle.cluster_opening.specs as cluster_opening
pub use Rattle.cluster_opening.specs.locked_nodes
pub use Rattle.unlocked_nodes.specs as unlocked_nodes
