pub mod Begun
pub mod Cluster
pub mod Nodes
pub mod Passes
pub mod Replies
pub mod Room
pub use Rattle.core_nodes.specs as core_nodes
pub use Rattle.shared_nodes.specs as shared_nodes
