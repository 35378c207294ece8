pub mod SetOfIds
pub mod Pairs
