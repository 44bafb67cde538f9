pub mod Copy
pub mod Load
