pub mod Cuts
pub mod Growing
pub mod Later
