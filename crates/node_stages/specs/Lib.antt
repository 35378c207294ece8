pub mod Caches
pub mod Catching
pub mod Relays
pub mod Stages
pub mod Standing
pub use Rattle.core_model.specs as core_model
pub use Rattle.core_model.specs.leader_tier
