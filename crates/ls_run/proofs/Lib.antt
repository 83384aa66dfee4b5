pub mod EngineLines
pub mod ScriptLines
pub mod RunWords
pub mod PieceLines
pub mod Feeding
pub mod Runs
pub mod Completing
