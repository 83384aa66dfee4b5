pub mod Hub
pub mod Quiet
pub mod Turning
pub mod Repeats
pub mod Requests
pub mod Clock
