-- How a connection's stream is over: by its session's word, or since its connection gave it up (TLCP 2.1, stream
-- connection; this project's profile).
use Rattle.std.specs.Prelude.{◌≡◌, ◌<◌, ◌⊎◌, ℕ, List, [], ◌∷◌, ◌++◌, Bool, true, false, Option, None, Some}
use Rattle.ls_record.specs.Turning.{loop_text}
use Rattle.ls_session.specs.declared.session.Turn.{Turn}
use Rattle.ls_session.specs.declared.session.Turn.TheVariants as turn
use Rattle.ls_told.specs.Seen.{Testified}
use Rattle.ls_told.specs.Requests.{HasBound}
use Rattle.ls_told.specs.Turns.{HasEnded, IsUnbound}
use Rattle.ls_conn.specs.Streaming.{IsGiven}
use Rattle.ls_conn.specs.Lasting.{IsLost, IsLostAt}
use Rattle.ls_conn_ws.specs.Streams.{StreamState}

-- of all that was given to a caller LOOP is the last, on the stream of an epoch
abbrev pub HasLooped : ℕ → Testified → Type 0
HasLooped epoch t =
    (places : List ℕ) × (place : ℕ) × (t.mine ≡ places ++ place ∷ []) × IsGiven t.lines epoch place loop_text

-- the stream of an epoch has ended by its session's word: LOOP was given; END was, or the session has ended; there is a
-- newer stream; or none is bound
abbrev pub HasSaidEnd : ℕ → Testified → Type 0
HasSaidEnd epoch t =
    HasLooped epoch t
    ⊎ ((code : ℕ) × HasEnded t.number code t.lines)
    ⊎ ((e : ℕ) × (epoch < e) × HasBound e t.lines)
    ⊎ IsUnbound t.number t.lines

-- it has, or it is lost
abbrev pub IsOver : ℕ → Testified → Type 0
IsOver epoch t = HasSaidEnd epoch t ⊎ IsLost epoch t

-- whether a stream goes on after a turn: one whose session is spent does until its connection ends
abbrev pub runs_after : Turn → Bool
runs_after turn.Send = true
runs_after (turn.Ask ask) = true
runs_after turn.Idle = true
runs_after (turn.NotDue at) = true
runs_after (turn.Ended code) = false
runs_after (turn.Superseded e) = false
runs_after turn.Unbound = false
runs_after turn.Spent = true

-- a stream that went on is lost at a tick, and goes on no more; any other one is as it was
abbrev pub LosesRunning : ℕ → Option StreamState → Option StreamState → Type 0
LosesRunning now None stream = stream ≡ None
LosesRunning now (Some s) None = ⊥
LosesRunning now (Some s) (Some u) =
    (s.runs ≡ true → IsLostAt s.epoch now s.told u.told × (u.runs ≡ false)) × (s.runs ≡ false → u ≡ s)
