pub mod Table
mod Rows
pub mod Counts
mod Names
mod Making
mod Prefix
mod Steps
mod Scanning
mod Rowwise
mod Noting
pub mod Walk
mod Sayings
mod Translating
mod Saying
mod Assembling
