-- The buffer of a slot in any mode, by cases.
use Rattle.std.specs.Prelude.{◌≡◌, ℕ, List, ◌++◌, length, Bool, Option, nat_lt, All}
use Rattle.ls_event.specs.declared.event.Entry.{Entry}
use Rattle.ls_event.specs.declared.event.Event.{Event}
use Rattle.ls_event.specs.declared.event.Taken.{Taken}
use Rattle.ls_event.specs.History.{HasFields}
use Rattle.ls_event.specs.Slots.{Slot}
use Rattle.ls_event.specs.Cuts.{cut, is_pending, waiting_count}
use Rattle.ls_raw.specs.Raw.{StandsRaw, raw_head}
use Rattle.ls_raw.specs.Stands.{raw_head_is_cut, raw_pending_is, raw_waiting_is, raw_longer}
use Rattle.ls_merge.specs.Merge.{StandsMerge, merge_head, merge_is_pending}
use Rattle.ls_merge.specs.Stands.{merge_head_is_cut, merge_pending_is, merge_waiting_is, merge_longer}
use Rattle.ls_distinct.specs.Distinct.{StandsDistinct, distinct_head, distinct_is_pending}
use Rattle.ls_distinct.specs.Stands.{distinct_head_is_cut, distinct_pending_is, distinct_waiting_is}
use Rattle.ls_distinct.specs.Stands.{distinct_longer, AreRowsWide}
use Rattle.ls_command.specs.Command.{StandsCommand, AreKeysWide, NamesKey, command_head}
use Rattle.ls_command.specs.Command.{command_is_pending}
use Rattle.ls_command.specs.Stands.{command_head_is_cut, command_pending_is, command_waiting_is}
use Rattle.ls_command.specs.Stands.{command_longer}
use Rattle.ls_cell.specs.declared.any.AnyBuffer.{AnyBuffer}
use Rattle.ls_cell.specs.declared.any.AnyBuffer.TheVariants as any

-- a buffer stands for a slot on a history
abbrev pub StandsAny : AnyBuffer → Slot → List Entry → Type 0
StandsAny (any.Raw b) s h = StandsRaw b s h
StandsAny (any.Merge b) s h = StandsMerge b s h
StandsAny (any.Distinct b) s h = StandsDistinct b s h
StandsAny (any.Command b) s h = StandsCommand b s h

-- the number that was enqueued last
abbrev pub any_last : AnyBuffer → ℕ
any_last (any.Raw b) = b.last
any_last (any.Merge b) = b.last
any_last (any.Distinct b) = b.last
any_last (any.Command b) = b.last

-- the rows that it keeps have so many values
abbrev pub HasAnyFields : AnyBuffer → ℕ → Type 0
HasAnyFields (any.Raw b) n = All (λ u. length u.row ≡ n) b.kept
HasAnyFields (any.Merge b) n = length b.row ≡ n
HasAnyFields (any.Distinct b) n = AreRowsWide n b
HasAnyFields (any.Command b) n = AreKeysWide n b

-- what an event must be to be enqueued
abbrev pub AnyAdmits : AnyBuffer → Event → Type 0
AnyAdmits (any.Raw b) e = Unit {0}
AnyAdmits (any.Merge b) e = HasFields (length b.row) e
AnyAdmits (any.Distinct b) e = Unit {0}
AnyAdmits (any.Command b) e = NamesKey b.key e

-- its next cut, where there is one
abbrev pub any_cut : AnyBuffer → Option Taken
any_cut (any.Raw b) = raw_head b
any_cut (any.Merge b) = merge_head b
any_cut (any.Distinct b) = distinct_head b
any_cut (any.Command b) = command_head b

-- whether it is pending
abbrev pub any_pending : AnyBuffer → Bool
any_pending (any.Raw b) = nat_lt b.cursor b.last
any_pending (any.Merge b) = merge_is_pending b
any_pending (any.Distinct b) = distinct_is_pending b
any_pending (any.Command b) = command_is_pending b

-- how many updates wait in it
abbrev pub any_waiting : AnyBuffer → ℕ
any_waiting (any.Raw b) = length b.kept
any_waiting (any.Merge b) = length b.later
any_waiting (any.Distinct b) = length b.kept
any_waiting (any.Command b) = b.waiting

-- its next cut is that of each slot that it stands for
pub any_cut_is : (b : AnyBuffer) (s : Slot) (h : List Entry) → StandsAny b s h → any_cut b ≡ cut h s
any_cut_is (any.Raw b) s h st = raw_head_is_cut b s h st
any_cut_is (any.Merge b) s h st = merge_head_is_cut b s h st
any_cut_is (any.Distinct b) s h st = distinct_head_is_cut b s h st
any_cut_is (any.Command b) s h st = command_head_is_cut b s h st

-- it is pending where each such slot is
pub any_pending_is : (b : AnyBuffer) (s : Slot) (h : List Entry) → StandsAny b s h → any_pending b ≡ is_pending h s
any_pending_is (any.Raw b) s h st = raw_pending_is b s h st
any_pending_is (any.Merge b) s h st = merge_pending_is b s h st
any_pending_is (any.Distinct b) s h st = distinct_pending_is b s h st
any_pending_is (any.Command b) s h st = command_pending_is b s h st

-- as many updates wait in it as in each such slot
pub any_waiting_is : (b : AnyBuffer) (s : Slot) (h : List Entry) → StandsAny b s h → any_waiting b ≡ waiting_count h s
any_waiting_is (any.Raw b) s h st = raw_waiting_is b s h st
any_waiting_is (any.Merge b) s h st = merge_waiting_is b s h st
any_waiting_is (any.Distinct b) s h st = distinct_waiting_is b s h st
any_waiting_is (any.Command b) s h st = command_waiting_is b s h st

-- each such slot has its last number
pub any_last_is : (b : AnyBuffer) (s : Slot) (h : List Entry) → StandsAny b s h → any_last b ≡ s.last
any_last_is (any.Raw b) s h st = st.last
any_last_is (any.Merge b) s h st = st.last
any_last_is (any.Distinct b) s h st = st.last
any_last_is (any.Command b) s h st = st.last

-- it goes on standing as the history grows
pub any_longer : (b : AnyBuffer) (s : Slot) (h more : List Entry) → StandsAny b s h → StandsAny b s (h ++ more)
any_longer (any.Raw b) s h more st = raw_longer b s h more st
any_longer (any.Merge b) s h more st = merge_longer b s h more st
any_longer (any.Distinct b) s h more st = distinct_longer b s h more st
any_longer (any.Command b) s h more st = command_longer b s h more st
