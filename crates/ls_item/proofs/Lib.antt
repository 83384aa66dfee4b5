pub mod RowWeights
pub mod Causes
pub mod Places
pub mod Tables
pub mod Grown
