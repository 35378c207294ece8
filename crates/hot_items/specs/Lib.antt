pub mod CacheView
pub mod Hot
pub mod KeyView
pub mod Keys
pub mod Laws
pub mod Replies
