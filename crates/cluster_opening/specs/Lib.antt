pub mod Opening
pub use Rattle.locked_nodes.specs as locked_nodes
