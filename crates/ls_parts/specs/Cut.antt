-- Handed on: definitions of ls_taking that the crates above read.
pub use Rattle.ls_taking.specs.Cut.{CutOf}
