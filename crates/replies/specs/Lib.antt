pub mod Kinds
pub mod OpenTexts
