pub mod Keeping
pub mod Kept
pub mod Losses
pub mod Texts
