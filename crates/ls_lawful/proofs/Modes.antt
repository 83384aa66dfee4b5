-- Each mode keeps what is true of its slots, and so does a turn.
use Rattle.std.proofs.Common.{◌≡◌, ◌+◌, ◌<◌, ℕ, zero, suc, List, [], ◌∷◌, length, refl, sym, ◌∙◌, subst, Option, Some}
use Rattle.std.proofs.Common.{None}
use Rattle.ls_event.specs.declared.event.Entry.{Entry}
use Rattle.ls_event.specs.declared.event.Mode.{Mode}
use Rattle.ls_event.specs.declared.event.Taken.{Taken}
use Rattle.ls_event.specs.Slots.{Plan, Slot, passed}
use Rattle.ls_mirror.specs.Client.{What}
use Rattle.ls_record.specs.Came.{Came, came_by}
use Rattle.ls_event.specs.Cuts.{cut_of, cut}
use Rattle.ls_event.specs.Joining.{distinct_joined, command_joined, joined_in, joined}
use Rattle.ls_record.specs.Cutting.{Wanted, Turn, what_of_cut, turn_within, turn}
use Rattle.ls_record.proofs.Parts.{turn_or, turn_by}
use Rattle.ls_lawful.specs.CommandMode.{IsKeyed}
use Rattle.ls_lawful.specs.Lawful.{LawfulOf, LawfulSlot}
use Rattle.ls_lawful.proofs.Keeps.{Keeps, AfterCut}
use Rattle.ls_lawful.proofs.MergeLaws.{merge_keeps, merge_joins}
use Rattle.ls_lawful.proofs.RawLaws.{raw_keeps, raw_joins}
use Rattle.ls_lawful.proofs.DistinctLaws.{distinct_keeps, distinct_joins}
use Rattle.ls_lawful.proofs.CommandLaws.{command_keeps, command_joins}
use Rattle.ls_event.specs.declared.event.Mode.TheVariants as mode
use Rattle.ls_event.specs.declared.event.Taken.TheVariants as taken

pub keeps : (m : Mode) → Keeps (cut_of m) (LawfulOf m)
keeps mode.Merge = merge_keeps
keeps mode.Raw = raw_keeps
keeps mode.Distinct = distinct_keeps
keeps mode.Command = command_keeps

-- a slot joins with its plan
distinct_plan : (p : Plan) (h : List Entry) (o : Option ℕ) → (distinct_joined p h o).plan ≡ p
distinct_plan p h None = refl
distinct_plan p h (Some asked) = refl

command_plan : (p : Plan) (h : List Entry) (o : Option ℕ) → (command_joined p h o).plan ≡ p
command_plan p h None = refl
command_plan p h (Some asked) = refl

pub joined_plan : (p : Plan) (h : List Entry) (o : Option ℕ) → (joined p h o).plan ≡ p
joined_plan p h o = by_mode p.mode
  where
    by_mode : (m : Mode) → (joined_in m p h o).plan ≡ p
    by_mode mode.Merge = refl
    by_mode mode.Raw = refl
    by_mode mode.Distinct = distinct_plan p h o
    by_mode mode.Command = command_plan p h o

pub joins : (p : Plan) (h : List Entry) (w : Wanted) → p.base ≡ length h → 0 < p.size → (p.mode ≡ mode.Command → IsKeyed p w.places)
    → LawfulSlot h w (joined p h w.snapshot) []
joins p h w base some keyed = subst (λ (q : Plan). LawfulOf q.mode h w (joined p h w.snapshot) []) (sym (joined_plan p h w.snapshot)) (by_mode p.mode refl)
  where
    by_mode : (m : Mode) → p.mode ≡ m → LawfulOf m h w (joined_in m p h w.snapshot) []
    by_mode mode.Merge is = merge_joins p h w base some
    by_mode mode.Raw is = raw_joins p h w base
    by_mode mode.Distinct is = distinct_joins p h w base some
    by_mode mode.Command is = command_joins w p h (keyed is) base

-- a cut keeps the plan
pub passed_plan : (s : Slot) (t : Taken) → (passed s t).plan ≡ s.plan
passed_plan s (taken.Row row upto) = refl
passed_plan s (taken.Lost count upto) = refl
passed_plan s (taken.Change cells upto) = refl
passed_plan s (taken.Key key row upto) = refl
passed_plan s (taken.Cleared upto) = refl
passed_plan s taken.EndOfSnapshot = refl

pub after_cut : (h : List Entry) (w : Wanted) (s : Slot) (cs : List Came) (t : Taken) (o : Option What) → AfterCut (LawfulOf s.plan.mode) h w s cs t o
    → AfterCut LawfulSlot h w s cs t o
after_cut h w s cs t (Some what) l = subst (λ (p : Plan). LawfulOf p.mode h w (passed s t) (came_by s t what ∷ cs)) (sym (passed_plan s t)) l
after_cut h w s cs t None l = subst (λ (p : Plan). LawfulOf p.mode h w (passed s t) cs) (sym (passed_plan s t)) l

-- what is true of a slot after a turn
abbrev pub AfterTurn : List Entry → Wanted → List Came → Slot → Option Came → Type 0
AfterTurn h w cs s None = LawfulSlot h w s cs
AfterTurn h w cs s (Some c) = LawfulSlot h w s (c ∷ cs)

line_keeps : (h : List Entry) (w : Wanted) (s : Slot) (cs : List Came) (t : Taken) (rest : Turn) (o : Option What) → AfterCut LawfulSlot h w s cs t o
    → (LawfulSlot h w (passed s t) cs → AfterTurn h w cs rest.slot rest.came) → AfterTurn h w cs (turn_or s t o rest).slot (turn_or s t o rest).came
line_keeps h w s cs t rest (Some what) l more = l
line_keeps h w s cs t rest None l more = more l

turned_keeps : (h : List Entry) (w : Wanted) (s : Slot) (cs : List Came) (rest : Slot → Turn) (o : Option Taken) → cut h s ≡ o → LawfulSlot h w s cs
    → ((r : Slot) → LawfulSlot h w r cs → AfterTurn h w cs (rest r).slot (rest r).came)
    → AfterTurn h w cs (turn_by w s cs o rest).slot (turn_by w s cs o rest).came
turned_keeps h w s cs rest None is l more = l
turned_keeps h w s cs rest (Some t) is l more =
    line_keeps h w s cs t (rest (passed s t)) (what_of_cut w s cs t) (after_cut h w s cs t (what_of_cut w s cs t) ((keeps s.plan.mode).pass h w s cs t is l))
    (more (passed s t))

turn_within_keeps : (n : ℕ) (h : List Entry) (w : Wanted) (s : Slot) (cs : List Came) → LawfulSlot h w s cs
    → AfterTurn h w cs (turn_within n h w s cs).slot (turn_within n h w s cs).came
turn_within_keeps zero h w s cs l = l
turn_within_keeps (suc n) h w s cs l = turned_keeps h w s cs (λ r. turn_within n h w r cs) (cut h s) refl l (λ r k. turn_within_keeps n h w r cs k)

pub turn_keeps : (h : List Entry) (w : Wanted) (s : Slot) (cs : List Came) → LawfulSlot h w s cs → AfterTurn h w cs (turn h w s cs).slot (turn h w s cs).came
turn_keeps h w s cs l = turn_within_keeps (s.last + s.owed + 2) h w s cs l

-- and a turn keeps the plan
line_plan : (s : Slot) (t : Taken) (o : Option What) (rest : Turn) → rest.slot.plan ≡ s.plan → (turn_or s t o rest).slot.plan ≡ s.plan
line_plan s t (Some what) rest e = passed_plan s t
line_plan s t None rest e = e

turned_plan : (w : Wanted) (s : Slot) (cs : List Came) (o : Option Taken) (rest : Slot → Turn) → ((r : Slot) → (rest r).slot.plan ≡ r.plan)
    → (turn_by w s cs o rest).slot.plan ≡ s.plan
turned_plan w s cs None rest e = refl
turned_plan w s cs (Some t) rest e = line_plan s t (what_of_cut w s cs t) (rest (passed s t)) (e (passed s t) ∙ passed_plan s t)

turn_within_plan : (n : ℕ) (h : List Entry) (w : Wanted) (s : Slot) (cs : List Came) → (turn_within n h w s cs).slot.plan ≡ s.plan
turn_within_plan zero h w s cs = refl
turn_within_plan (suc n) h w s cs = turned_plan w s cs (cut h s) (λ r. turn_within n h w r cs) (λ r. turn_within_plan n h w r cs)

pub turn_plan : (h : List Entry) (w : Wanted) (s : Slot) (cs : List Came) → (turn h w s cs).slot.plan ≡ s.plan
turn_plan h w s cs = turn_within_plan (s.last + s.owed + 2) h w s cs
