pub mod Bounds
pub mod Found
pub mod Inverses
pub mod Kept
pub mod Places
