pub mod Among
pub mod Shapes
pub mod Sound
