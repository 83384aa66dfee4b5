pub mod Told
pub mod Leaving
pub mod JoinedSlots
pub mod AddedSlots
pub mod Operated
