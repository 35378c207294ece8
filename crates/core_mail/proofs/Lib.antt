pub mod Arrivals
pub mod InboxLemmas
pub mod Notifying
