pub mod LastObject
pub mod LastRecord
pub mod Listed
