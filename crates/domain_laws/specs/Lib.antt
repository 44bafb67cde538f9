pub mod Holds
pub mod Sound
pub mod Ordered
