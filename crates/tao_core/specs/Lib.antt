pub mod Asked
pub mod CacheReplies
pub mod Calls
pub mod Core
pub mod Health
pub mod HeldCalls
pub mod Deliveries
pub mod Laws
pub mod LinkReplies
pub mod Opened
pub mod Replies
pub mod StoreReplies
pub mod Streams
pub mod Trims
pub mod Settling
pub use Rattle.core_repairs.specs as core_repairs
pub use Rattle.core_trims.specs as core_trims
