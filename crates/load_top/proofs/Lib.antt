pub mod EndingLemmas
pub mod StuckLoads
