pub mod Beginnings
pub mod Utf8
