pub mod AddedMarks
pub mod Calls
pub mod Positions
pub mod Rings
