pub mod Lines
pub mod Talks
pub mod InMemory
