pub mod Changed
pub mod Exact
pub mod Found
pub mod Lasts
pub mod Longer
pub mod Spans
pub mod Verdicts
