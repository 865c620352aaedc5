pub mod Verdicts
pub mod Needed
pub mod Answers
