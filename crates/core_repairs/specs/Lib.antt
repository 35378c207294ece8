pub mod Repairs
pub mod Stops
pub mod Streams
pub use Rattle.core_steps.specs as core_steps
