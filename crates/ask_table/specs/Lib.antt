pub mod Asks
pub mod History
pub mod Open
