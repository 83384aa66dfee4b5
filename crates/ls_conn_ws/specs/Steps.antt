-- What a turn of a connection came to, and what is so between two turns.
use Rattle.std.specs.Prelude.{◌≡◌, ◌<◌, ℕ, List, Option, None, Some, if◌then◌else◌}
use Rattle.ls_talk.specs.Lines.{Counts}
use Rattle.ls_talk.specs.declared.talk.Happening.{Happening}
use Rattle.ls_register.specs.Deeds.{Deed}
use Rattle.ls_conn.specs.Acting.{Known}
use Rattle.ls_conn.specs.declared.ended.ConnEnd.{ConnEnd}
use Rattle.ls_conn.specs.declared.ended.TheConstants.{MOST_IDLES}
use Rattle.ls_conn_ws.specs.Streams.{StreamState}
use Rattle.ls_conn_ws.specs.Hearing.{GoesOn, RunsOn}
use Rattle.ls_conn_ws.specs.declared.step.Step.{Step}
use Rattle.ls_conn_ws.specs.declared.step.Step.TheVariants as step

-- the end that a turn came to, if it did
abbrev pub ended_by : Step → Option ConnEnd
ended_by step.Goes = None
ended_by (step.Rests ms) = None
ended_by (step.Ended ending) = Some ending

-- a connection between two turns: its talk, what is known, its stream, the looks in a row that found no message while no
-- stream went on, and its end, where it has ended
pub record SocketState (T : Type 0) : Type 0 where
  pub talk : T
  pub known : Known
  pub stream : Option StreamState
  pub idles : ℕ
  pub end : Option ConnEnd

-- what happened between two moments of a talk, by its logs and counts then (log0, c, and f of puts) and now (log, d, g),
-- is the life of a connection that goes on, or has ended
pub record HasGone (deed : Deed) (ended : Option ConnEnd) (log0 log : Option (List Happening)) (c d : Counts) (f g : ℕ) (k : Known) (stream : Option StreamState)
    (idles : ℕ) : Type 0 where
  pub goes : GoesOn deed ended log0 log k stream idles
  pub runs : RunsOn ended idles c d f g
  pub few : ended ≡ None → idles < MOST_IDLES

-- since some moment of its talk
pub record HasLived (deed : Deed) (ended : Option ConnEnd) (log : Option (List Happening)) (d : Counts) (g : ℕ) (k : Known) (stream : Option StreamState)
    (idles : ℕ) : Type 0 where
  pub log0 : Option (List Happening)
  pub counts : Counts
  pub puts : ℕ
  pub gone : HasGone deed ended log0 log counts d puts g k stream idles

-- the number of the session of a stream that goes on
abbrev pub session_of : Option StreamState → Option ℕ
session_of None = None
session_of (Some s) = if s.runs then Some s.told.number else None
