-- Handed on: lemmas of ls_sight that the crates above read.
pub use Rattle.ls_sight.proofs.Reading.{read_is, shape_found}
