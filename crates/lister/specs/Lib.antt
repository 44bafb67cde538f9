pub mod List
pub mod Lines
pub mod Passes
