pub mod Streaming
pub mod Acting
pub mod Lasting
pub mod Answers
