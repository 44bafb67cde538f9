pub mod State
pub mod Questions
pub mod Parts
