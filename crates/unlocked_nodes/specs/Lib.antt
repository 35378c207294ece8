pub mod Looking
pub mod Settling
pub mod Unlocked
pub use Rattle.core_repairs.specs as core_repairs
