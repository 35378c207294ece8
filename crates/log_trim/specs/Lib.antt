pub mod Trimming
