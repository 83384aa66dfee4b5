pub mod History
pub mod Seen
