pub mod Lists
pub mod Blocks
pub mod Answers
pub mod Verdicts
pub mod Valid
