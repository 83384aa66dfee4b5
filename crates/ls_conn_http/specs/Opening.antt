-- A stream over HTTP, and what it leaves (TLCP 2.1, HTTP transport).
use Rattle.std.specs.Prelude.{◌≡◌, ℕ, List, ◌++◌, Bool, true, false, Option, if◌then◌else◌}
use Rattle.std.specs.Io.KnownBytes.{Appends}
use mathlib.Core.List.{IsPrefix}
use Rattle.ls_told.specs.Seen.{Testified}
use Rattle.ls_conn.specs.Answers.{SeesOn}
use Rattle.ls_conn.specs.declared.report.StreamEnd.{StreamEnd}
use Rattle.ls_conn.specs.declared.report.StreamEnd.TheVariants as stream
use Rattle.ls_conn.specs.Streaming.{AreGiven, EndsBy, lines_of}
use Rattle.ls_conn.specs.declared.ended.ConnEnd.{ConnEnd}
use Rattle.ls_conn.specs.declared.ended.ConnEnd.TheVariants as end

-- whether all that a stream gave was put, where it ended so
abbrev pub is_put : StreamEnd → Bool
is_put stream.Looped = true
is_put (stream.Ended code) = true
is_put (stream.Superseded e) = true
is_put stream.Unbound = true
is_put stream.PeerLeft = true
is_put stream.WriteFault = false
is_put stream.Stopped = true
is_put stream.Spent = true
is_put stream.NoMemory = false

-- a stream was given after a head, and this was written of both: a part, from the front; all of it, where all was put
-- and all was written
pub record SentOver (ending : StreamEnd) (whole : Bool) (epoch : ℕ) (head : List ℕ) (held held2 : Option (List ℕ))
    (old new : Testified) : Type 0 where
  pub places : List ℕ
  pub texts : List (List ℕ)
  pub mine : new.mine ≡ old.mine ++ places
  pub given : AreGiven new.lines epoch places texts
  pub sees : SeesOn old new
  pub ends : EndsBy ending epoch new texts
  pub written : List ℕ
  pub appends : Appends held held2 written
  pub part : IsPrefix written (head ++ lines_of texts)
  pub all : whole ≡ true → is_put ending ≡ true → written ≡ head ++ lines_of texts

-- whether a stream that ended so has to be lost
abbrev pub loses : StreamEnd → Bool
loses stream.Looped = false
loses (stream.Ended code) = false
loses (stream.Superseded e) = false
loses stream.Unbound = false
loses stream.PeerLeft = true
loses stream.WriteFault = true
loses stream.Stopped = true
loses stream.Spent = true
loses stream.NoMemory = true

-- how a connection ends whose stream ended so, where all of its bytes were written
abbrev pub whole_end : StreamEnd → ConnEnd
whole_end stream.Looped = end.Served
whole_end (stream.Ended code) = end.Served
whole_end (stream.Superseded e) = end.Served
whole_end stream.Unbound = end.Served
whole_end stream.PeerLeft = end.PeerLeft
whole_end stream.WriteFault = end.WriteFault
whole_end stream.Stopped = end.Stopped
whole_end stream.Spent = end.Served
whole_end stream.NoMemory = end.NoMemory

-- and how, where they were or not
abbrev pub conn_end : StreamEnd → Bool → ConnEnd
conn_end e whole = if whole then whole_end e else end.WriteFault
