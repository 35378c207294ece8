pub mod EntryLemmas
mod FloorLemmas
mod PassLemmas
