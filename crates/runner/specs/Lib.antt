pub mod Run
pub mod Traffic
pub mod Ends
pub mod Lent
