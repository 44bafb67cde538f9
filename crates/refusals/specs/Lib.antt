pub mod Check
pub mod Refusal
