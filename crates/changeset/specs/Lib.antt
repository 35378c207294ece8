pub mod ChangeLaws
pub mod Changes
pub use Rattle.graph_model.specs as graph_model
