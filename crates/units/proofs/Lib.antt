pub mod Cases
pub mod Every
pub mod Halves
pub mod Or
pub mod Places
