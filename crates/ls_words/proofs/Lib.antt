pub mod Decimals
pub mod ReadBack
pub mod Dividing
pub mod Ascii
