pub mod Giving
pub mod Standing
