pub mod Places
pub mod Moved
pub mod Least
pub mod Trimming
pub mod Losing
mod Examples
