pub mod Accepted
pub mod Fit
pub mod Jumps
pub mod Memory
pub mod Found
pub mod Position
pub mod Walk
