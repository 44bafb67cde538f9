pub mod Instructions
pub mod Answers
