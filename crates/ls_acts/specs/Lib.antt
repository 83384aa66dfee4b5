pub mod Answers
pub mod Telling
pub mod Joining
pub mod Acting
