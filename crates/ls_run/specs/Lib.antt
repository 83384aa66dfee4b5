pub mod Engine
pub mod Replay
pub mod Ran
