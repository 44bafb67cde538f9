mod Fits
mod Steps
mod Digits
mod Registers
mod Names
mod Conditions
mod Arguments
mod Heads
pub mod Patterns
pub mod Rows
