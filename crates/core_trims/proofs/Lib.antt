pub mod AfterTrim
pub mod Behind
pub mod Resetting
