pub mod Fields
pub mod Gives
pub mod Laws
pub mod Reading
pub mod Values
