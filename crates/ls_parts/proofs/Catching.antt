-- Handed on: lemmas of ls_taking that the crates above read.
pub use Rattle.ls_taking.proofs.Catching.{asked_still}
