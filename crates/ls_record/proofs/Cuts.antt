-- The next cut of a slot.
use Rattle.std.proofs.Common.{◌≡◌, ◌<◌, List, refl, cond, Bool, true, false, Some, None, nat_lt}
use Rattle.std.proofs.lemmas.Bool.{ltb-true}
use Rattle.ls_event.specs.declared.event.Entry.{Entry}
use Rattle.ls_event.specs.declared.event.Taken.{Taken}
use Rattle.ls_event.specs.Slots.{Slot}
use Rattle.ls_event.specs.Cuts.{change_to, next_cursor, merge_cut}

-- that of mode MERGE stands only where the slot is behind, and tells the change up to the next cursor
pub record IsMergeCut (h : List Entry) (s : Slot) (t : Taken) : Type 0 where
  pub behind : s.cursor < s.last
  pub taken : t ≡ change_to h s (next_cursor s)

pub merge_cut_is : (h : List Entry) (s : Slot) (t : Taken) → merge_cut h s ≡ Some t → IsMergeCut h s t
merge_cut_is h s t is = by_test (nat_lt s.cursor s.last) refl is
  where
    by_test : (v : Bool) → nat_lt s.cursor s.last ≡ v → cond v (Some (change_to h s (next_cursor s))) None ≡ Some t → IsMergeCut h s t
    by_test true b e = record { behind = ltb-true s.cursor s.last b; taken = cc }
    by_test false b e = absurd (let x : None ≡ Some t = e in cc)

-- there is none
pub no_cut : {A : Type 0} (t : Taken) → None ≡ Some t → A
no_cut t is = absurd (let x : None ≡ Some t = is in cc)
