-- Handed on: lemmas of ls_parts that the crates above read.
pub use Rattle.ls_parts.proofs.Living.{alive_is, lives_opened, lives_room}
