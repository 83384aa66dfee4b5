pub mod Parts
pub mod Begun
