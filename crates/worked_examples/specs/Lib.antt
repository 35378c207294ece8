pub mod MarkedPositions
pub mod Prefixes
pub mod Replies
pub mod Serving
