-- Handed on: definitions of ls_parts that the crates above read.
pub use Rattle.ls_parts.specs.Giving.{AsksNone, AsksOn, AsksSlot, Gives, GivesNext, StaysStill, StaysUnasked, given, speaks}
