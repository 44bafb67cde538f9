pub mod Format
pub mod Block
pub mod Window
pub mod Code
pub mod Check
