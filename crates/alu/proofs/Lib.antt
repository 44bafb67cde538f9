pub mod Sums
pub mod Turned
