-- What frequencies and bandwidths come to: which slots give lines, and when the first one that waits may.
use Rattle.std.specs.Prelude.{◌≡◌, ◌==◌, ℕ, ◌+◌, ◌-◌, ◌*◌, ◌<◌, ◌≤◌, List, [], ◌∷◌, ◌++◌, Bool, true, not, ◌&&◌}
use Rattle.std.specs.Prelude.{Option, None, Some, All, if◌then◌else◌}
use Rattle.std.specs.List.{Contains, list_any}
use Rattle.std.specs.Option.{ForSome}
use Rattle.ls_budget.specs.Budget.{Spend, interval, full_credit}
use Rattle.ls_budget.specs.Due.{IsFirst}
use Rattle.ls_budget.specs.Window.{latest_tick, MadeWithCredit, IsWithin, taken_in_all}
use Rattle.ls_step.specs.declared.step.Step.{Step}
use Rattle.ls_step.specs.declared.step.Step.TheVariants as step
use Rattle.ls_step.specs.declared.step.Repeat.{Repeat}
use Rattle.ls_record.specs.Came.{Came}
use Rattle.ls_value.specs.Each.{Each}
use Rattle.ls_record.specs.Lines.{Line, Begins, Ends, Configures, Answers, Tells, is_update, spends_behind}
use Rattle.ls_record.specs.Turning.{NotDue, session_turn}
use Rattle.ls_world.specs.World.{World}
use Rattle.ls_record.specs.Records.{Item, LiveSlot, Session, RoundLine, due_at, is_due, is_waiting}

-- what the U lines of a session took of its bandwidth since that was set, the newest first
abbrev pub spends_of : Session → List Spend
spends_of s = spends_behind s.rate.behind s.board.lines

-- a round's line is that of a slot of the session which is due
pub record IsOfDue (now : ℕ) (s : Session) (t : RoundLine) : Type 0 where
  pub slot : LiveSlot
  pub is_in : Contains s.board.round slot
  pub due : is_due now s slot ≡ true
  pub same : t.live ≡ record slot { slot = t.live.slot }

-- one line was numbered at a tick, and it tells of a slot of the session which was due then
pub record NumbersDue (now : ℕ) (s : Session) (lines : List Line) : Type 0 where
  pub slot : LiveSlot
  pub is_in : Contains s.board.round slot
  pub due : is_due now s slot ≡ true
  pub came : Came
  pub is : lines ≡ Tells slot.sub slot.rank now came ∷ s.board.lines

-- a tick is that of a slot which waits, and of none that waits it is an earlier one
pub record IsLeastWait (now : ℕ) (items : List Item) (s : Session) (tick : ℕ) : Type 0 where
  pub slot : LiveSlot
  pub is_in : Contains s.board.round slot
  pub waits : is_waiting now items s slot ≡ true
  pub at : due_at now s slot ≡ tick
  pub least : (v : LiveSlot) → Contains s.board.round v → is_waiting now items s v ≡ true → tick ≤ due_at now s v

-- whether a slot that waits now is due at a tick, where nothing comes meanwhile
abbrev pub is_any_due : ℕ → List Item → Session → ℕ → Bool
is_any_due now items s tick = list_any (λ v. is_waiting now items s v && is_due tick s v) s.board.round

-- where a session's turn gives nothing before a tick, it is the first one at which a slot that waits is due
abbrev pub WaitsForFirst : World → Session → Type 0
WaitsForFirst w s = (epoch tick : ℕ) → (session_turn w.tick w.items epoch s).gives ≡ NotDue tick
    → IsFirst (is_any_due w.tick w.items s) w.tick tick

-- a session's bandwidth is above 0, each of its spends was made with credit, and none is later than a tick
pub record KeepsBandwidth (now : ℕ) (s : Session) : Type 0 where
  pub some : ForSome s.rate.limit (λ r. 0 < r)
  pub made : ForSome s.rate.limit (λ r. MadeWithCredit r (spends_of s))
  pub latest : latest_tick (spends_of s) ≤ now

-- the window law of a session's spends: those in any window of ticks, all but the last of them, take less than the
-- greatest credit and what the rate restores in the window, in thousandths of a bit
abbrev pub KeepsWindows : Session → Type 0
KeepsWindows s = (r : ℕ) (newer within older : List Spend) (last : Spend) (from to : ℕ) → s.rate.limit ≡ Some r
    → spends_of s ≡ newer ++ (last ∷ (within ++ older)) → All (IsWithin from to) (last ∷ within)
    → taken_in_all within < full_credit r + r * (to - from)

-- the clock after a step
abbrev pub clock_after : ℕ → Step → ℕ
clock_after now (step.Tick ms) = ms
clock_after now s = now

-- steps from a tick on never set the clock back
abbrev pub ClockRises : ℕ → List Repeat → Type 0
ClockRises now [] = Unit {0}
ClockRises now (r ∷ rs) = (now ≤ clock_after now r.step) × ClockRises (clock_after now r.step) rs

-- the greatest frequency that the last CONF of a subscription told
abbrev pub configured : ℕ → List Line → Option ℕ
configured sub [] = None
configured sub (Begins s items fields keys ∷ lines) = configured sub lines
configured sub (Ends s ∷ lines) = configured sub lines
configured sub (Configures s frequency filtered ∷ lines) = if s == sub then frequency else configured sub lines
configured sub (Answers outcome ∷ lines) = configured sub lines
configured sub (Tells s rank tick c ∷ lines) = configured sub lines

-- whether lines leave a subscription as it is: none begins it, ends it or tells of its frequency
abbrev pub is_left_by : ℕ → List Line → Bool
is_left_by sub [] = true
is_left_by sub (Begins s items fields keys ∷ lines) = not (s == sub) && is_left_by sub lines
is_left_by sub (Ends s ∷ lines) = not (s == sub) && is_left_by sub lines
is_left_by sub (Configures s frequency filtered ∷ lines) = not (s == sub) && is_left_by sub lines
is_left_by sub (Answers outcome ∷ lines) = is_left_by sub lines
is_left_by sub (Tells s rank tick c ∷ lines) = is_left_by sub lines

-- two updates of a slot under one frequency, between which its subscription is left as it is, are at least the
-- frequency's interval apart
abbrev pub AreApart : List Line → Type 0
AreApart lines = (sub rank f early late : ℕ) (c d : Came) (newer between older : List Line)
    → lines ≡ newer ++ (Tells sub rank late c ∷ (between ++ (Tells sub rank early d ∷ older)))
    → is_update c.what ≡ true → is_update d.what ≡ true → is_left_by sub between ≡ true → configured sub older ≡ Some f
    → early + interval f ≤ late

-- a session's slots have the frequencies that CONF told of their subscriptions
abbrev pub AreToldOf : Session → Type 0
AreToldOf s = Each (λ v. v.frequency ≡ configured v.sub s.board.lines) s.board.round
