-- Handed on: lemmas of ls_taking that the crates above read.
pub use Rattle.ls_taking.proofs.Shown.{lawful_of, one_session}
