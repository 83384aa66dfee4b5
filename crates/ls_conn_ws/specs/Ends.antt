-- Handed on: definitions of ls_conn that the crates above read.
pub use Rattle.ls_conn.specs.declared.ended.ConnEnd.TheVariants.{Refused}
pub use Rattle.ls_conn.specs.declared.ended.TheConstants.{MOST_IDLES}
