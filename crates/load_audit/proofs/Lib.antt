mod AuditLemmas
mod CheckedWrites
mod KeptLemmas
pub mod LastRecords
mod Meeting
pub mod PlaceLemmas
