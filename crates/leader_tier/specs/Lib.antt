pub mod LeaderReads
pub mod TakenWrites
pub use Rattle.shard_tables.specs.master_tables
pub use Rattle.shard_tables.specs as shard_tables
