pub mod Jumps
pub mod Targets
pub mod Marks
