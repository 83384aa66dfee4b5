-- When what is kept of a session in threads is right: it stands for a record of which its history tells, and each slot of
-- the record has a seat (this project's profile).
use Rattle.std.specs.Prelude.{◌≡◌, ◌≤◌, ◌<◌, ℕ, ◌+◌, ◌-◌, List, length, Bool, true, false, None, Some, is_some, slice_get}
use Rattle.ls_value.specs.Each.{Each}
use Rattle.ls_value.specs.declared.limits.TheConstants.{GREATEST_NUMBER, GREATEST_TICK}
use Rattle.ls_event.specs.declared.event.Entry.{Entry}
use Rattle.ls_event.specs.declared.item.ItemDef.{ItemDef}
use Rattle.ls_event.specs.Cuts.{cut, is_pending}
use Rattle.ls_event.specs.Slots.{Slot}
use Rattle.ls_record.specs.declared.TheConstants.{MOST_UNSENT}
use Rattle.ls_record.specs.Records.{LiveSlot, Life, Alive, Ending, Closed, shape_in}
use Rattle.ls_register.specs.declared.told.Told.{Told}
use Rattle.ls_seated.specs.Seats.{SeatSeen, IsAt}
use Rattle.ls_session.specs.declared.session.Session.{Session as Kept}
use Rattle.ls_session.specs.Record.{Record}
use Rattle.ls_session.specs.Session.{StandsSession}
use Rattle.ls_told.specs.Spoken.{Spoken, is_forced}
use Rattle.ls_told.specs.Heard.{heard, latest_of}
use Rattle.ls_told.specs.Seen.{Watched, seen_of}
use Rattle.ls_told.specs.Keeping.{KeepsTold}
use Rattle.ls_taking.specs.Groups.{SubSeen}

-- a slot has no cut, and isn't pending
pub record HasNothing (h : List Entry) (s : Slot) : Type 0 where
  pub none : cut h s ≡ None
  pub pends : is_pending h s ≡ false

-- a seat is of a live slot: it is the slot of its rank in its subscription, of its item and its number there, and what
-- the seat keeps is true of the slot's record on what was seen of the item
pub record IsSeatOf (config : List ItemDef) (ws : List Watched) (t : SeatSeen) (v : LiveSlot) : Type 0 where
  pub sub : t.sub ≡ v.sub
  pub rank : t.rank + 1 ≡ v.rank
  pub item : t.item ≡ v.item
  pub number : t.number ≡ v.number
  pub shape : v.slot.plan.shape ≡ shape_in config v.item
  pub at : IsAt (shape_in config v.item) (seen_of ws v.item) t.plan t.list v.slot
  pub last : t.last ≡ v.slot.last
  pub cursor : t.cursor ≡ v.slot.cursor
  pub quiet : t.quiet ≡ true → HasNothing (seen_of ws v.item) v.slot

-- behind a place no group is of a subscription
abbrev pub NoneBehind : List SubSeen → ℕ → ℕ → Type 0
NoneBehind subs k sub = (j : ℕ) (g : SubSeen) → k < j → slice_get subs j ≡ Some g → g.sub ≡ sub → ⊥

-- a slot has one, at its rank, from 1, in the last group of its subscription
pub record HasSeat (config : List ItemDef) (ws : List Watched) (subs : List SubSeen) (v : LiveSlot) : Type 0 where
  pub place : ℕ
  pub group : SubSeen
  pub seat : SeatSeen
  pub there : slice_get subs place ≡ Some group
  pub named : group.sub ≡ v.sub
  pub only : NoneBehind subs place v.sub
  pub ranked : slice_get group.seats (v.rank - 1) ≡ Some seat
  pub of : IsSeatOf config ws seat v

-- how many entries may still come where no more may be numbered, given or bound: a loss, an end and END, a wish for LOOP,
-- and as many bandwidths as may be owed
abbrev pub life_rank : Life → ℕ
life_rank Alive = 0
life_rank (Ending code) = 1
life_rank (Closed code) = 2

abbrev pub one_if : Bool → ℕ
one_if true = 1
one_if false = 0

abbrev pub extra_of : Spoken → ℕ
extra_of p = length p.owed + one_if (is_some p.unbound) + life_rank p.life + one_if (is_forced p.streams)

-- so a history has no more entries than a shared history may
pub record FitsHistory (number : ℕ) (es : List Told) : Type 0 where
  pub few : length es ≤ GREATEST_NUMBER + 1 + extra_of (heard number es)
  pub owed : length (heard number es).owed ≤ MOST_UNSENT

-- what is kept of the session of a number, with this history, these watches and these seats, stands for a record
pub record LivesAs (config : List ItemDef) (number : ℕ) (es : List Told) (ws : List Watched) (subs : List SubSeen) (k : Kept)
    (r : Record) : Type 0 where
  pub stands : StandsSession k r
  pub number_is : r.number ≡ number
  pub floor : r.floor ≤ latest_of es
  pub latest : latest_of es ≤ GREATEST_TICK
  pub told : KeepsTold config number es ws r.session
  pub seated : Each (HasSeat config ws subs) r.session.board.round
  pub fits : FitsHistory number es

-- for some record
abbrev pub Lives : List ItemDef → ℕ → List Told → List Watched → List SubSeen → Kept → Type 0
Lives config number es ws subs k = (r : Record) × LivesAs config number es ws subs k r
