pub mod Texts
pub mod Keeps
