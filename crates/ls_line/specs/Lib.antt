pub mod Lines
pub mod Forms
pub mod Pieces
pub mod Reading
