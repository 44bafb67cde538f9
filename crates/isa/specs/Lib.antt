pub mod Decode
pub mod Encode
pub mod Count
pub mod Access
