-- A session's history, read from its beginning: what each entry makes of the session (TLCP 2.1, session life and
-- recovery; this project's profile).
use Rattle.std.specs.Prelude.{◌≡◌, ◌≤◌, ◌==◌, ℕ, ◌+◌, List, [], ◌∷◌, ◌++◌, length, Bool, true, false, max}
use Rattle.std.specs.Prelude.{Option, None, Some, if◌then◌else◌}
use Rattle.ls_record.specs.Records.{Stream, Alive, Ending, opening_lines, count_lines, begun_stream, bandwidth_text, timed_out}
use Rattle.ls_record.specs.declared.TheConstants.{MOST_UNBOUND}
use Rattle.ls_register.specs.declared.told.Told.{Told}
use Rattle.ls_register.specs.declared.told.Told.TheVariants.{Numbered, Gave, Bound, Rate, Rebind, Unbound, Ended}
use Rattle.ls_told.specs.Spoken.{Spoken, numbering, on_newest, next_of, giving}

-- what entries make of a value, one after another
abbrev pub told_from : {A : Type 0} → (A → Told → A) → A → List Told → A
told_from f a [] = a
told_from f a (e ∷ es) = told_from f (f a e) es

-- before its first entry
abbrev pub unspoken : Spoken
unspoken =
    record {
      texts = [];
      rate = record { limit = None; behind = 0 };
      sent = 0;
      given_up = 0;
      owed = [];
      streams = [];
      unbound = None;
      life = Alive;
    }

-- the count that a client told with a bind, if it told one
abbrev pub counted_from : Bool → ℕ → Option ℕ
counted_from counted from = if counted then Some from else None

-- the session of a number after one entry more
abbrev pub hears : ℕ → Spoken → Told → Spoken
hears number s (Numbered line) = numbering line.text s
hears number s (Gave epoch text tick) = giving tick (next_of s) s
hears number s (Bound epoch from counted keepalive content) =
    record s {
      sent = from;
      owed = opening_lines number keepalive s.rate.limit ++ count_lines (counted_from counted from);
      streams = begun_stream from content ∷ s.streams;
      unbound = None;
    }
hears number s (Rate limit tick) =
    record s {
      rate = record { limit = limit; behind = length s.texts };
      owed = s.owed ++ bandwidth_text limit ∷ [];
    }
hears number s Rebind = on_newest (λ (t : Stream). record t { forced = true }) s
hears number s (Unbound tick) = record s { unbound = Some tick }
hears number s (Ended code tick) = record s { life = Ending code }

-- and after entries
abbrev pub heard_after : ℕ → Spoken → List Told → Spoken
heard_after number s es = told_from (hears number) s es

abbrev pub heard : ℕ → List Told → Spoken
heard number es = heard_after number unspoken es

-- the greatest tick of entries, 0 where none has one
abbrev pub tick_or : ℕ → Told → ℕ
tick_or latest (Numbered line) = max latest line.tick
tick_or latest (Gave epoch text tick) = max latest tick
tick_or latest (Bound epoch from counted keepalive content) = latest
tick_or latest (Rate limit tick) = max latest tick
tick_or latest Rebind = latest
tick_or latest (Unbound tick) = max latest tick
tick_or latest (Ended code tick) = max latest tick

abbrev pub latest_after : ℕ → List Told → ℕ
latest_after latest es = told_from tick_or latest es

abbrev pub latest_of : List Told → ℕ
latest_of es = latest_after 0 es

-- a tick counts as the greatest one before it, where that is greater
abbrev pub counts_as : ℕ → List Told → ℕ
counts_as now es = max now (latest_of es)

-- the keep-alive in ms of the newest stream, 0 where there was none
abbrev pub keepalive_or : ℕ → Told → ℕ
keepalive_or keepalive (Bound epoch from counted asked content) = asked
keepalive_or keepalive e = keepalive

abbrev pub keepalive_of : List Told → ℕ
keepalive_of es = told_from keepalive_or 0 es

-- the tick of the last line given on the stream of an epoch, if one was
abbrev pub gave_or : ℕ → Option ℕ → Told → Option ℕ
gave_or epoch last (Gave e text tick) = if e == epoch then Some tick else last
gave_or epoch last e = last

abbrev pub last_gave : ℕ → List Told → Option ℕ
last_gave epoch es = told_from (gave_or epoch) None es

-- the epoch and the tick, in ms, of a line that was given
pub record LineGiven : Type 0 where
  pub epoch : ℕ
  pub tick : ℕ

-- those of the line that was given last, whichever stream it was given on
abbrev pub given_or : Option LineGiven → Told → Option LineGiven
given_or last (Gave epoch text tick) = Some (record { epoch = epoch; tick = tick })
given_or last e = last

abbrev pub last_given : List Told → Option LineGiven
last_given es = told_from given_or None es

-- the epoch of the newest stream, 0 where there was none
abbrev pub epoch_or : ℕ → Told → ℕ
epoch_or epoch (Bound e from counted keepalive content) = e
epoch_or epoch e = epoch

abbrev pub epoch_after : ℕ → List Told → ℕ
epoch_after epoch es = told_from epoch_or epoch es

abbrev pub epoch_of : List Told → ℕ
epoch_of es = epoch_after 0 es

-- each stream has the next epoch, after one of this epoch
abbrev pub CountsOne : ℕ → Told → Type 0
CountsOne epoch (Bound e from counted keepalive content) = e ≡ epoch + 1
CountsOne epoch e = Unit {0}

abbrev pub CountsOn : ℕ → List Told → Type 0
CountsOn epoch [] = Unit {0}
CountsOn epoch (e ∷ es) = CountsOne epoch e × CountsOn (epoch_or epoch e) es

-- whether the newest stream is to be left by LOOP: whether a wish for it stands after the last Bound
abbrev pub rebind_or : Bool → Told → Bool
rebind_or wished (Bound epoch from counted keepalive content) = false
rebind_or wished Rebind = true
rebind_or wished e = wished

abbrev pub rebind_after : Bool → List Told → Bool
rebind_after wished es = told_from rebind_or wished es

abbrev pub has_rebind : List Told → Bool
has_rebind es = rebind_after false es

-- how many bandwidths were set after the last Bound
abbrev pub rates_or : ℕ → Told → ℕ
rates_or rates (Bound epoch from counted keepalive content) = 0
rates_or rates (Rate limit tick) = rates + 1
rates_or rates e = rates

abbrev pub rates_after : ℕ → List Told → ℕ
rates_after rates es = told_from rates_or rates es

abbrev pub rates_of : List Told → ℕ
rates_of es = rates_after 0 es

-- an end for want of a stream stands so long after the loss that left the session without one
abbrev pub EndsInTime : ℕ → List Told → Type 0
EndsInTime number es =
    (before after : List Told) (tick : ℕ) → es ≡ before ++ Ended timed_out tick ∷ after
    → (since : ℕ) × ((heard number before).unbound ≡ Some since) × (since + MOST_UNBOUND ≤ tick)
