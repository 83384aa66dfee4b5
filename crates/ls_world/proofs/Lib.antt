pub mod Rules
pub mod Unmoved
pub mod Knowing
pub mod Parts
pub mod ScriptRanges
