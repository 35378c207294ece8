pub mod Added
pub mod Jobs
pub mod ReadOuts
pub mod Reads
pub mod Refusals
pub mod Slaves
pub mod StoreCommits
pub mod StoreView
pub mod Stores
pub mod WriteDone
pub mod WriteSteps
pub mod Written
pub use Rattle.master_tables.specs as master_tables
pub use Rattle.write_model.specs as write_model
