pub mod Seen
pub mod Ties
