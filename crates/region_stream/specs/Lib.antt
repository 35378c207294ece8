pub mod Agreeing
pub mod Applying
pub mod Following
pub mod Opening
