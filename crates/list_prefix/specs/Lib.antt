pub mod Changes
pub mod Fronts
pub mod ListPrefix
pub mod Spans
pub mod Verdicts
