pub mod MergeAnswers
pub mod OtherEnds
pub mod Posting
pub mod ReadSteps
pub mod Reads
pub mod Relays
pub mod Replies
pub mod Routes
pub mod Writes
pub mod Streams
pub mod World
pub use Rattle.core_mail.specs as core_mail
pub use Rattle.core_nodes.specs as core_nodes
pub use Rattle.core_nodes.specs.node_stages
