pub mod Ends
pub mod Access
pub mod Formats
pub mod Dispatch
pub mod Fetch
pub mod Endings
pub mod Notes
