pub mod Bits
pub mod Jumps
pub mod Marking
