pub mod Defined
pub mod There
pub mod Claims
pub mod Examples
pub mod Narrow
