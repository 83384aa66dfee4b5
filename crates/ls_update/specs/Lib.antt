pub mod Fields
pub mod Writing
pub mod Reading
pub mod Growing
