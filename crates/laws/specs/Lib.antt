pub mod Choice
pub mod Numbers
pub mod Lists
pub mod Counts
pub mod Words
pub mod Searches
pub mod Sums
