-- Handed on: definitions of ls_joining that the crates above read.
pub use Rattle.ls_joining.specs.Sights.{AreOneItems, GaveAt, IsGiven, MeetEach, SeesOf, ShowsAll, ShowsIt}
