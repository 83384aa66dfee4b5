-- What a session's turn gives before its round of slots is asked (TLCP 2.1, streams).
use Rattle.std.specs.Prelude.{ℕ, List, [], ◌∷◌, length, Option, None, Some, nat_lt, if◌then◌else◌}
use Rattle.ls_record.specs.Records.{Life, Alive, Ending, Closed, Session, is_unsent, is_to_loop, is_bound, unbound_at}
use Rattle.ls_record.specs.Turning.{SessionTurn, Send, Superseded, Ended, gives_text, gives_unbound, next_given}
use Rattle.ls_record.specs.Turning.{loop_text}
use Rattle.ls_record.specs.Turning.{end_text}

-- by what is owed: the first line that is; else LOOP, where the stream is over; else the next unsent line; else
-- nothing, so that the round is asked
abbrev pub owed_first : ℕ → Session → List (List ℕ) → Option SessionTurn
owed_first now s (text ∷ owed) = Some (gives_text text (record s { owed = owed }))
owed_first now s [] =
    if is_to_loop s.streams then Some (record { session = unbound_at now s; gives = Send loop_text })
    else if is_unsent s then Some (next_given s)
    else None

-- on the stream that is bound: a session that has ended gives END once, and nothing else
abbrev pub bound_first : ℕ → Session → Life → Option SessionTurn
bound_first now s Alive = owed_first now s s.owed
bound_first now s (Ending code) = Some (gives_text (end_text code) (record s { life = Closed code }))
bound_first now s (Closed code) = Some (record { session = s; gives = Ended code })

-- at a tick, on the stream of an epoch
abbrev pub given_first : ℕ → ℕ → Session → Option SessionTurn
given_first now epoch s =
    if nat_lt epoch (length s.streams) then Some (record { session = s; gives = Superseded (length s.streams) })
    else if is_bound s then bound_first now s s.life
    else Some (record { session = s; gives = gives_unbound s.life })
