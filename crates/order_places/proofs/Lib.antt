pub mod Capped
pub mod ProcessPages
