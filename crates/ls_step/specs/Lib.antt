pub mod Grammar
pub mod Adding
pub mod Ranges
pub mod Notes
