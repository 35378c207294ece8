pub mod Decided
pub mod DecidedLaws
pub mod FillLaws
pub mod Fills
pub use Rattle.list_prefix.specs as list_prefix
pub use Rattle.tao_schema.specs as tao_schema
