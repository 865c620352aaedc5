pub mod Loads
pub mod Pages
pub mod Uses
