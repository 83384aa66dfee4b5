pub mod Begun
pub mod AddDone
pub mod Ahead
pub mod Catching
pub mod Shown
