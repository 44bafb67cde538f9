pub mod Syntax
pub mod Slots
pub mod Parser
pub mod Spots
