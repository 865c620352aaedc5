pub mod LeafCursor
pub mod LeafEntries
pub mod Leaves
pub mod Planned
pub mod StartWords
pub mod TablePages
