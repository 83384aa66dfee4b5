pub mod Kept
pub mod Moves
pub mod Round
pub mod Seats
