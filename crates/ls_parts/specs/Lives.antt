-- Handed on: definitions of ls_taking that the crates above read.
pub use Rattle.ls_taking.specs.Lives.{FitsHistory, HasNothing, HasSeat, IsSeatOf, Lives, LivesAs}
