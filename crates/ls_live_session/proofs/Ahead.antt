-- Handed on: lemmas of ls_joining that the crates above read.
pub use Rattle.ls_joining.proofs.Ahead.{asks_that}
