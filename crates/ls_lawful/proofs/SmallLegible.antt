-- The small steps of a session's turn keep what clients can decode of it: a slot takes more events, passes a cut that
-- makes no line, or gives a line and goes to the round's end. So does an item whose history is longer.
use Rattle.std.proofs.Common.{◌≡◌, ℕ, zero, suc, List, [], ◌∷◌, ◌++◌, take, drop, refl, sym, ◌∙◌, ap, subst, Some, slice_get}
use Rattle.ls_event.specs.declared.event.Entry.{Entry}
use Rattle.ls_event.specs.declared.event.Taken.{Taken}
use Rattle.ls_event.specs.Slots.{Plan, Slot, passed}
use Rattle.ls_event.specs.Cuts.{cut}
use Rattle.ls_event.specs.Publishes.{IsHistory}
use Rattle.ls_mirror.specs.Client.{What}
use Rattle.ls_record.specs.Came.{Came, came_by, whats}
use Rattle.ls_record.specs.Cutting.{what_of_cut}
use Rattle.ls_record.specs.Lines.{came}
use Rattle.ls_record.specs.Records.{Item, LiveSlot, Board, history_of, shape_at, change}
use Rattle.ls_value.specs.Each.{Each}
use Rattle.ls_value.proofs.Each.{each_append}
use Rattle.ls_record.proofs.Each.{each_at, each_take, each_drop, each_changed}
use Rattle.ls_lawful.specs.Lawful.{LawfulBoard, IsSound}
use Rattle.ls_lawful.proofs.Heard.{RowFits}
use Rattle.ls_lawful.proofs.Modes.{passed_plan}
use Rattle.ls_event.specs.Textual.{Textual}
use Rattle.ls_lawful.proofs.Textual.{cut_fits}
use Rattle.ls_lawful.proofs.Legible.{Shown, LegibleBoard, AreTextual, textual_at, shown_moved, legible_given}
use Rattle.ls_lawful.proofs.SmallSteps.{with_slot, moved_at, told_at, told_keeps, seen_to}

-- a change of the slot of a place that keeps its plan
legible_moved : (n : ℕ) (v : LiveSlot) (f : Slot → Slot) (b : Board) → slice_get b.round n ≡ Some v → (f v.slot).plan ≡ v.slot.plan → LegibleBoard b
    → LegibleBoard (moved_at n f b)
legible_moved n v f b is plan h =
    record { lines = h.lines; slots = each_changed (Shown b.lines) n (with_slot f) v b.round is (shown_moved b.lines v (f v.slot) plan) h.slots }

-- more events are enqueued
pub caught_up_legible : (n m : ℕ) (v : LiveSlot) (b : Board) → slice_get b.round n ≡ Some v → LegibleBoard b
    → LegibleBoard (moved_at n (λ s. record s { last = m }) b)
caught_up_legible n m v b is h = legible_moved n v (λ s. record s { last = m }) b is refl h

-- a cut that makes no line is passed
pub silent_legible : (n : ℕ) (v : LiveSlot) (t : Taken) (b : Board) → slice_get b.round n ≡ Some v → LegibleBoard b
    → LegibleBoard (moved_at n (λ s. passed s t) b)
silent_legible n v t b is h = legible_moved n v (λ s. passed s t) b is (passed_plan v.slot t) h

-- the slot of a place gives a line
pub told_legible : (items : List Item) (now n : ℕ) (v : LiveSlot) (t : Taken) (what : What) (b : Board) → Each IsSound items → AreTextual items
    → slice_get b.round n ≡ Some v → cut (history_of items v.item) v.slot ≡ Some t
    → what_of_cut v.wanted v.slot (came v.sub v.rank b.lines) t ≡ Some what → LawfulBoard items b → LegibleBoard b → LegibleBoard (told_at now n v t what b)
told_legible items now n v t what b sound textual is cuts tells l h =
    let shown : Shown b.lines v = each_at (Shown b.lines) n v b.round is h.slots in
    let cs : List Came = came v.sub v.rank b.lines in
    legible_given now items b (take n b.round ++ drop (suc n) b.round)
    (Some (record { live = record v { slot = passed v.slot t }; came = came_by v.slot t what })) sound textual h.lines
    (each_append (Shown b.lines) (take n b.round) (drop (suc n) b.round) (each_take (Shown b.lines) n b.round h.slots)
    (each_drop (Shown b.lines) (suc n) b.round h.slots)) (
      shown_moved b.lines v (passed v.slot t) (passed_plan v.slot t) shown,
      λ command. cut_fits (history_of items v.item) v.wanted v.slot cs t what (textual_at items v.item textual)
          (sym (ap (λ (p : Plan). p.mode) (passed_plan v.slot t)) ∙ command)
          (subst (λ (n : ℕ). Each (RowFits n) (whats cs)) (sym shown.schema) shown.rows) cuts tells,
    )
    (told_keeps items now n v t what b is cuts tells l)

-- an item of which more was seen
pub textual_seen : (items : List Item) (k : ℕ) (h : List Entry) → Textual h → AreTextual items → AreTextual (change k (seen_to h) items)
textual_seen [] k h t e = tt
textual_seen (i ∷ items) zero h t e = (t, e.1)
textual_seen (i ∷ items) (suc k) h t e = (e.0, textual_seen items k h t e.1)

pub sound_seen : (items : List Item) (k : ℕ) (h : List Entry) → IsHistory (shape_at items k) h → Each IsSound items
    → Each IsSound (change k (seen_to h) items)
sound_seen [] k h is e = tt
sound_seen (i ∷ items) zero h is e = (record { shape = e.0.shape; distinct = e.0.distinct; history = is }, e.1)
sound_seen (i ∷ items) (suc k) h is e = (e.0, sound_seen items k h is e.1)
