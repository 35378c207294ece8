pub mod KeyTest
pub mod Rows
pub mod TakenItems
pub use Rattle.changeset.proofs as changeset_lemmas
pub use Rattle.sealed_item.proofs.list_prefix_lemmas
pub use Rattle.maint_msg.proofs as maint_msg_lemmas
pub use Rattle.sealed_item.proofs as sealed_item_lemmas
