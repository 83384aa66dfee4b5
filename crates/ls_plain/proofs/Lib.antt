pub mod More
pub mod Touched
