pub mod Budget
pub mod Due
pub mod Kept
pub mod Window
