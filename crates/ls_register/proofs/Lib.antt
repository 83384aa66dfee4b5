pub mod Showing
pub mod Rising
pub mod Counting
