pub mod GrowthLaws
pub mod Rule
pub mod View
pub use Rattle.graph_model.specs as graph_model
