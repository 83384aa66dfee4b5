-- Handed on: definitions of ls_joining that the crates above read.
pub use Rattle.ls_joining.specs.Leaving.{EndsAll, EndsSub, Finds, IsOverdue, SetsFrequency}
