-- Handed on: definitions of ls_shared that the crates above read.
pub use Rattle.ls_shared.specs.Answers.{GivesLine, Loses, SeesOn, Turns}
