pub mod Machine
pub mod Stop
pub mod Step
pub mod Traffic
pub mod Held
