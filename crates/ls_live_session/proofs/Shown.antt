-- Handed on: lemmas of ls_joining that the crates above read.
pub use Rattle.ls_joining.proofs.Shown.{lawful_of}
