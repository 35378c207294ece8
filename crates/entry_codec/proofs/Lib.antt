pub mod Codecs
pub mod DataFields
pub mod EntryFields
pub mod Loops
pub mod Numbers
pub mod Sizes
pub mod Texts
pub mod TouchFields
