pub mod Lines
pub mod Openings
pub mod Requests
pub mod Seen
