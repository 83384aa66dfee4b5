pub mod Causes
pub mod Keeping
pub mod Knowing
pub mod Lagging
