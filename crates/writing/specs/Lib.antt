pub mod Pages
pub mod Uses
pub mod Loaded
