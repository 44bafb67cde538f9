pub mod Verdict
pub mod Targets
pub mod Bounds
