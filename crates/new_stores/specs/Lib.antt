pub mod Empty
pub mod Streams
