pub mod AtKeys
pub mod ListState
pub mod OrderKeys
