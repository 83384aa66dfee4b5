-- Handed on: definitions of ls_joining that the crates above read.
pub use Rattle.ls_joining.specs.Giving.{AsksNone, AsksOn, AsksSlot, Gives, GivesNext, StaysStill, StaysUnasked, given, speaks}
