pub mod PageCases
