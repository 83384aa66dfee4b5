pub mod Record
pub mod Asking
pub mod Front
pub mod Session
