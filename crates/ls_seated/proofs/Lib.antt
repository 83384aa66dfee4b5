pub mod Tied
pub mod Seating
pub mod Ready
