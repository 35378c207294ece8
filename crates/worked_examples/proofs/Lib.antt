pub mod CacheExamples
pub mod ReplyExamples
pub mod ServingExamples
