pub mod Accepted
pub mod LeafCursor
pub mod LeafEntries
pub mod Loading
pub mod ProcessWords
pub mod Shares
pub mod TablePages
pub mod TrackerBytes
