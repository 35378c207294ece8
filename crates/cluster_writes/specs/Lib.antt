pub mod Learning
pub mod Open
pub mod Replies
