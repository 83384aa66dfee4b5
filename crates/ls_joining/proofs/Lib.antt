pub mod Sitting
pub mod Added
pub mod AddDone
pub mod Ahead
pub mod Catching
pub mod Living
pub mod Shown
