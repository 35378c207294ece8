pub mod Merges
pub mod Nodes
pub use Rattle.shared_stores.specs as shared_stores
