pub mod Walking
pub mod Ties
pub mod Plain
pub mod Replays
