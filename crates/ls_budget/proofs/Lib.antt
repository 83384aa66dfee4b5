pub mod Credits
pub mod Standing
pub mod Windows
mod Examples
