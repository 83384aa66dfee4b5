pub mod World
pub mod Acting
pub mod Lawful
pub mod Ranges
pub mod Steps
pub mod Script
pub mod Repeats
pub mod Failing
