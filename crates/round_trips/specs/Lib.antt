pub mod BlockWords
pub mod Accepting
pub mod WrittenBlock
pub mod WellFormed
pub mod ReadBlock
pub mod RoundTrips
