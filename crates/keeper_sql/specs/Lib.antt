pub mod MetIds
pub mod ReadAhead
pub mod Untold
