-- Handed on: definitions of ls_taking that the crates above read.
pub use Rattle.ls_taking.specs.Taking.{IsAskedFrom, asked_now, caught_up, reached}
