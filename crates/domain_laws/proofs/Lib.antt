pub mod Zeros
pub mod Sound
pub mod Ordered
