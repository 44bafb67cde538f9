pub mod Date
pub mod Version
