pub mod Unused
pub mod Places
pub mod Made
pub mod Accepted
pub mod Reading
pub mod Sums
pub mod Claims
