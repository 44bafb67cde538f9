pub mod Notes
pub mod Course
pub mod Touched
pub mod Traffic
pub mod Sizes
pub mod Overflow
