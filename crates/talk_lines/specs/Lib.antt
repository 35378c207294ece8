pub mod Batches
pub mod BatchText
pub mod Talk
