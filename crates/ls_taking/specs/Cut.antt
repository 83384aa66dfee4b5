-- Handed on: definitions of ls_sight that the crates above read.
pub use Rattle.ls_sight.specs.Cut.{CutOf}
