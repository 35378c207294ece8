pub mod Calls
pub mod Carries
pub mod JobBetween
pub mod Laws
pub mod Merging
