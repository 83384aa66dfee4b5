pub mod Fields
pub mod Targets
pub mod Heads
pub mod Reading
pub mod Replies
