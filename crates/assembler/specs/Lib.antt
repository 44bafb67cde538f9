pub mod Assemble
pub mod Assembled
pub mod Labels
pub mod Reading
pub mod Passes
