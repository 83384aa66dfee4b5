-- Handed on: definitions of ls_history that the crates above read.
pub use Rattle.ls_history.specs.declared.history.CutOf.{CutOf}
