pub mod Turns
pub mod Noted
pub mod Traffic
mod Loop
