pub mod Delivered
pub mod HandedOn
pub mod Kept
pub mod Look
pub mod Node
pub mod NodeView
pub mod Taken
pub mod TakenEntry
pub use Rattle.changeset.specs as changeset
pub use Rattle.sealed_item.specs.list_prefix
pub use Rattle.maint_msg.specs as maint_msg
pub use Rattle.sealed_item.specs as sealed_item
