-- What a slot of a session tells is found, and caught up with its item (TLCP 2.1, notifications; this project's profile).
use Rattle.std.specs.Prelude.{◌≡◌, ◌≤◌, ◌-◌, ℕ, List, length, Some, slice_get, slice_set}
use Rattle.ls_event.specs.declared.event.Taken.{Taken}
use Rattle.ls_event.specs.declared.item.ItemDef.{ItemDef}
use Rattle.ls_event.specs.Publishes.{IsHistory}
use Rattle.ls_event.specs.Slots.{Slot}
use Rattle.ls_lawful.proofs.SmallSteps.{moved_at}
use Rattle.ls_record.specs.Records.{LiveSlot, on_board, shape_in}
use Rattle.ls_register.specs.declared.told.Told.{Told}
use Rattle.ls_seated.specs.Seats.{SeatSeen, SeatedItem, IsSeatOf as IsSeatAt, IsReady as IsReadyAt}
use Rattle.ls_session.specs.declared.session.Session.{Session as Kept}
use Rattle.ls_session.specs.declared.session.Ask.{Ask}
use Rattle.ls_session.specs.Record.{Record, Question, question_of}
use Rattle.ls_session.specs.Session.{ask_in}
use Rattle.ls_told.specs.Heard.{counts_as}
use Rattle.ls_told.specs.Seen.{Watched, seen_of}
use Rattle.ls_turns.specs.declared.slot_ref.SlotRef.{SlotRef}
use Rattle.ls_event.specs.declared.event.Taken.TheVariants as taken
use Rattle.ls_sight.specs.Sights.{IsFirst}
use Rattle.ls_taking.specs.Groups.{SubSeen}
use Rattle.ls_taking.specs.Lives.{LivesAs, NoneBehind}

-- a slot into which all events up to a number are enqueued
abbrev pub reached : ℕ → LiveSlot → LiveSlot
reached n v = record v { slot = record v.slot { last = n } }

abbrev pub asked_now : ℕ → Question → Question
asked_now n q = record q { live = reached n q.live }

-- a record whose asked slot has them
abbrev pub caught_up : ℕ → Record → Record
caught_up n r = record r { session = on_board (moved_at r.asked (λ (x : Slot). record x { last = n })) r.session }

-- from a place on no group is of a subscription
abbrev pub NoneFrom : List SubSeen → ℕ → ℕ → Type 0
NoneFrom subs k sub = (j : ℕ) (g : SubSeen) → k ≤ j → slice_get subs j ≡ Some g → g.sub ≡ sub → ⊥

-- the seats of a slot's subscription stand at a place, the last ones of it; so does its seat among them, at its rank
pub record SeatAt (subs : List SubSeen) (k : ℕ) (slot : SlotRef) : Type 0 where
  pub group : SubSeen
  pub seat : SeatSeen
  pub there : slice_get subs k ≡ Some group
  pub named : group.sub ≡ slot.sub
  pub only : NoneBehind subs k slot.sub
  pub some : 1 ≤ slot.place
  pub ranked : slice_get group.seats (slot.place - 1) ≡ Some seat

-- a group with another seat of a rank, from 1
abbrev pub seat_set : SubSeen → ℕ → SeatSeen → SubSeen
seat_set g rank u = record g { seats = slice_set g.seats (rank - 1) u }

-- the number up to which a cut tells, where the slot told up to this one
abbrev pub told_to : ℕ → Taken → ℕ
told_to cursor (taken.Row row upto) = upto
told_to cursor (taken.Lost count upto) = upto
told_to cursor (taken.Change cells upto) = upto
told_to cursor (taken.Key key row upto) = upto
told_to cursor (taken.Cleared upto) = upto
told_to cursor taken.EndOfSnapshot = cursor

-- that up to which the slot told then: a key of mode COMMAND leaves it
abbrev pub cursor_after : ℕ → Taken → ℕ
cursor_after cursor (taken.Row row upto) = upto
cursor_after cursor (taken.Lost count upto) = upto
cursor_after cursor (taken.Change cells upto) = upto
cursor_after cursor (taken.Key key row upto) = cursor
cursor_after cursor (taken.Cleared upto) = upto
cursor_after cursor taken.EndOfSnapshot = cursor

-- an item is that of a slot: it has the other side of the slot's seat, and the first watch of that item is of it
pub record IsFound (config : List ItemDef) (ws : List Watched) (subs : List SubSeen) (seats watch : ℕ) (slot : SlotRef)
    (i : SeatedItem) : Type 0 where
  pub seat : SeatAt subs seats slot
  pub of : IsSeatAt seat.seat i
  pub first : IsFirst ws watch slot.item i.item
  pub shape : i.item.shape ≡ shape_in config slot.item

-- and every event of the item is enqueued into the slot
pub record IsCaught (subs : List SubSeen) (seats : ℕ) (slot : SlotRef) (i : SeatedItem) : Type 0 where
  pub seat : SeatAt subs seats slot
  pub ready : IsReadyAt seat.seat i

-- a question of a slot stands at a tick, and is asked
pub record IsAskedFrom (config : List ItemDef) (number : ℕ) (es : List Told) (ws : List Watched) (subs : List SubSeen) (k : Kept)
    (r : Record) (q : Question) (ask : Ask) (now : ℕ) : Type 0 where
  pub lives : LivesAs config number es ws subs k r
  pub asks : question_of r ≡ Some q
  pub ask_is : ask ≡ ask_in q
  pub tick : r.tick ≡ counts_as now es

-- the whole history of the item of a slot that is asked was seen, and every event of it is enqueued
pub record IsWhole (config : List ItemDef) (ws : List Watched) (q : Question) (i : SeatedItem) : Type 0 where
  pub seen : seen_of ws q.live.item ≡ i.item.history
  pub last : q.live.slot.last ≡ length i.item.history
  pub shape : i.item.shape ≡ shape_in config q.live.item
  pub history : IsHistory (shape_in config q.live.item) i.item.history
