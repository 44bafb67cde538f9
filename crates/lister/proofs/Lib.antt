pub mod Lengths
pub mod Lines
pub mod Naming
pub mod Formats
pub mod Checking
pub mod Listing
pub mod Room
pub mod Outcomes
