pub mod Uses
pub mod Places
pub mod Room
