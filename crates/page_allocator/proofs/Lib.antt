pub mod PageAt
