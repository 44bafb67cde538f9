pub mod Words
pub mod Position
pub mod Found
pub mod Visit
pub mod Verify
pub mod Progress
