pub mod Words
pub mod Scans
pub mod Naming
pub mod Feeds
pub mod Decimal
pub mod Writing
