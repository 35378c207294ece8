pub mod Begun
pub mod Fields
pub mod Meetings
pub mod Served
pub use Rattle.shard_log.specs as shard_log
