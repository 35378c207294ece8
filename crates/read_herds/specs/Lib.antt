pub mod Asking
pub mod Herding
pub mod Reading
pub mod Turns
pub use Rattle.herd_state.specs as herd_state
