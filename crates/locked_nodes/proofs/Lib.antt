pub mod Choosing
pub mod Inboxes
pub mod PassNotes
pub mod PastAnswers
pub mod Refusing
pub mod Seeing
pub use Rattle.core_nodes.proofs as core_nodes_lemmas
