pub mod Cells
pub mod Settled
