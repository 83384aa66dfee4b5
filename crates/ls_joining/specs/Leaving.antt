-- Handed on: definitions of ls_parts that the crates above read.
pub use Rattle.ls_parts.specs.Leaving.{EndsAll, EndsSub, Finds, IsOverdue, SetsFrequency}
