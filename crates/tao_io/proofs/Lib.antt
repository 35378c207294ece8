pub mod GivenLines
pub mod Known
pub mod LineLaws
mod Reading
