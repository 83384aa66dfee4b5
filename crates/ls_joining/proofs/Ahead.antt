-- Handed on: lemmas of ls_parts that the crates above read.
pub use Rattle.ls_parts.proofs.Ahead.{asks_that}
