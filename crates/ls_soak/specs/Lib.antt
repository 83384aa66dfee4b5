pub mod Drawing
pub mod Tallies
pub mod Soaking
