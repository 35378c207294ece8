pub mod Causes
pub mod Faults
pub mod Headline
pub mod Histories
pub mod Machine
pub mod Refusing
pub mod Scheduled
pub mod Standing
pub mod Touches
pub use Rattle.core_steps.specs as core_steps
pub use Rattle.promise_kept.specs as promise_kept
