pub mod Utf8
pub mod Commas
pub mod Backward
pub mod Rows
pub mod Laws
