pub mod Refills
pub mod Seen
pub use Rattle.cache_node.specs as cache_node
