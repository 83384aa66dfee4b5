-- Handed on: lemmas of ls_sight that the crates above read.
pub use Rattle.ls_sight.proofs.Shown.{lawful_of, one_session}
