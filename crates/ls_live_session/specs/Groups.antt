-- Handed on: definitions of ls_joining that the crates above read.
pub use Rattle.ls_joining.specs.Groups.{SubSeen}
