pub mod AcknowledgedLemmas
mod ExampleLemmas
pub mod PromiseLaws
mod SeenLaws
