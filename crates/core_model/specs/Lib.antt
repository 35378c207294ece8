pub mod Asked
pub mod Asks
pub mod Consistent
pub mod Cuts
pub mod Emptied
pub mod Evictions
pub mod Fleet
pub mod Growing
pub mod Items
pub mod Jobs
pub mod Laws
pub mod Messages
pub mod Pens
pub mod Reads
pub mod Serving
pub mod States
pub mod StoreLaws
pub mod Stores
pub mod Writes
pub use Rattle.follower_cache.specs.cache_node
pub use Rattle.follower_cache.specs as follower_cache
pub use Rattle.leader_tier.specs as leader_tier
pub use Rattle.leader_tier.specs.shard_tables
