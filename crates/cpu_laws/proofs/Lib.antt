pub mod Steps
pub mod Notes
pub mod Course
pub mod Lists
pub mod Touched
pub mod Traffic
pub mod Sizes
pub mod Overflow
