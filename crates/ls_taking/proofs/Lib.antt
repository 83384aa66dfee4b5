pub mod CaughtUp
pub mod Seeing
pub mod Moving
pub mod Catching
pub mod Popped
pub mod Reading
pub mod Shown
