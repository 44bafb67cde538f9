pub mod Reasons
pub mod ListReasons
pub mod Claims
pub mod Examples
