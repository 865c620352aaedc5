pub mod FromTheorems
