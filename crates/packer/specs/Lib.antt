pub mod Pack
pub mod Writing
