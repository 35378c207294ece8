pub mod Clones
pub mod Laws
pub mod Picks
