mod Ended
mod Kept
mod KeptCommits
mod KeptMerges
mod Learnt
mod OwedWrites
pub mod PastAnswers
mod Seen
mod Streaming
