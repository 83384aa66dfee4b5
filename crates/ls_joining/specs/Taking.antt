-- Handed on: definitions of ls_parts that the crates above read.
pub use Rattle.ls_parts.specs.Taking.{IsAskedFrom, asked_now, caught_up, reached}
