pub mod Forms
pub mod Decimals
