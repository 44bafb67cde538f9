pub mod Address
pub mod Bytes
pub mod Field
