pub mod Flags
pub mod Alu
pub mod Control
