pub mod Data
pub mod Log
