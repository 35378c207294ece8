pub mod FreedKeepers
pub mod FreedStores
pub mod MeetsClosed
