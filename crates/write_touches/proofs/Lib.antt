pub mod JobLemmas
pub mod More
pub mod NewsLemmas
pub mod OwnRecords
pub mod RecordLemmas
pub mod StampLemmas
pub mod TouchLemmas
