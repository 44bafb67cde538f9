pub mod Safety
pub mod Instance
