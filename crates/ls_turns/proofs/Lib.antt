pub mod Reading
pub mod Leaving
pub mod Joining
pub mod Rounds
pub mod Passing
pub mod Moving
