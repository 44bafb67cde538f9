pub mod Overwriting
pub mod Images
pub mod Packing
