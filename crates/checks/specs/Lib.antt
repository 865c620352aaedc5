pub mod Scan
pub mod Room
