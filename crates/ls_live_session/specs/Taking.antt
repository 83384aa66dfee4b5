-- Handed on: definitions of ls_joining that the crates above read.
pub use Rattle.ls_joining.specs.Taking.{IsAskedFrom, asked_now, caught_up, reached}
