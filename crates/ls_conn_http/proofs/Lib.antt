pub mod Pieces
pub mod Answering
pub mod Unread
pub mod Sending
pub mod Streams
pub mod Whole
pub mod LineEnds
mod Examples
