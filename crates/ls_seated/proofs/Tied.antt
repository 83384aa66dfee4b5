-- What a side of a slot says of its record: on a longer history, as events are enqueued, as a cut is passed, and as the
-- slot joins.
use Rattle.std.proofs.Common.{◌≡◌, ℕ, ◌<◌, ◌≤◌, List, [], ◌∷◌, ◌++◌, length, take, refl, sym, ◌∙◌, ap, subst, arith, Some, None, Option}
use Rattle.std.proofs.Common.{length-append}
use Rattle.std.proofs.lemmas.List.{take-append-le, take_all, length-take-le}
use mathlib.Core.List.{IsPrefix}
use Rattle.ls_event.specs.declared.event.Entry.{Entry}
use Rattle.ls_event.specs.declared.event.Taken.{Taken}
use Rattle.ls_event.specs.declared.event.Mode.{Mode}
use Rattle.ls_event.specs.declared.event.Snap.{Snap}
use Rattle.ls_event.specs.Shapes.{Shape}
use Rattle.ls_event.specs.Slots.{Slot, Plan, passed}
use Rattle.ls_event.specs.Cuts.{cut}
use Rattle.ls_event.specs.Joining.{plan_of, joined, rows_asked}
use Rattle.ls_event.proofs.LongerCuts.{Reaches, slot_after, passed_at, by_cut, EachWithin, slot_after_longer}
use Rattle.ls_cell.proofs.Arrivals.{joined_plan, joined_last}
use Rattle.ls_cell.proofs.Passing.{passed_last, passed_plan}
use Rattle.ls_seated.specs.declared.planned.Planned.{Planned}
use Rattle.ls_seated.specs.Seats.{begun, slot_of, IsAt}

-- the slot as it joined is the same on a longer history
pub begun_longer : (p : Shape) (h more : List Entry) (q : Planned) → q.base ≤ length h → begun p (h ++ more) q ≡ begun p h q
begun_longer p h more q based =
    ap (λ (t : List Entry). joined (plan_of p t q.mode q.size) t (rows_asked q.snapshot)) (take-append-le q.base h more based)

begun_plan : (p : Shape) (h : List Entry) (q : Planned) → (begun p h q).plan ≡ plan_of p (take q.base h) q.mode q.size
begun_plan p h q = joined_plan q.mode (plan_of p (take q.base h) q.mode q.size) (take q.base h) (rows_asked q.snapshot)

within_more : (n m : ℕ) (ls : List ℕ) → n ≤ m → EachWithin n ls → EachWithin m ls
within_more n m [] more w = tt
within_more n m (l ∷ ls) more w = (omega (arith, more, w.0), within_more n m ls more w.1)

within_last : (n : ℕ) (ls : List ℕ) (l : ℕ) → EachWithin n ls → l ≤ n → EachWithin n (ls ++ l ∷ [])
within_last n [] l w low = (low, tt)
within_last n (x ∷ ls) l w low = (w.0, within_last n ls l w.1 low)

-- and so is its record after its cuts
pub after_longer : (p : Shape) (h more : List Entry) (q : Planned) (list : List ℕ) → 0 < q.size → q.base ≤ length h
    → EachWithin (length h) list → slot_after (h ++ more) (begun p (h ++ more) q) list ≡ slot_after h (begun p h q) list
after_longer p h more q list some based within =
    let plan = begun_plan p h q in
    ap (λ (x : Slot). slot_after (h ++ more) x list) (begun_longer p h more q based)
    ∙ slot_after_longer h more (begun p h q) list (omega (arith, some, ap (λ (x : Plan). x.size) plan))
    (omega (arith, based, ap (λ (x : Plan). x.base) plan, length-take-le q.base h based)) within

-- a record is so on a longer history too
pub at_longer : (p : Shape) (h more : List Entry) (q : Planned) (list : List ℕ) (s : Slot) → IsAt p h q list s
    → IsAt p (h ++ more) q list s
at_longer p h more q list s a =
    let long = length-append h more in
    record {
      some = a.some;
      based = omega (arith, a.based, long);
      within = within_more (length h) (length (h ++ more)) list (omega (arith, long)) a.within;
      slot = a.slot ∙ ap (λ (x : Slot). record x { last = s.last }) (sym (after_longer p h more q list a.some a.based a.within));
      last = omega (arith, a.last, long);
    }

pub at_later : (p : Shape) (h k : List Entry) (q : Planned) (list : List ℕ) (s : Slot) → IsPrefix h k → IsAt p h q list s
    → IsAt p k q list s
at_later p h k q list s more a = subst (λ (l : List Entry). IsAt p l q list s) more.1 (at_longer p h more.0 q list s a)

-- and with more events enqueued
pub at_last : (p : Shape) (h : List Entry) (q : Planned) (list : List ℕ) (s : Slot) (last : ℕ) → last ≤ length h
    → IsAt p h q list s → IsAt p h q list (record s { last = last })
at_last p h q list s last low a =
    record {
      some = a.some;
      based = a.based;
      within = a.within;
      slot = ap (λ (x : Slot). record x { last = last }) a.slot;
      last = low;
    }

-- with all of them it is the one that both sides say
pub at_whole : (p : Shape) (h : List Entry) (q : Planned) (list : List ℕ) (s : Slot) → IsAt p h q list s
    → record s { last = length h } ≡ slot_of p h q list
at_whole p h q list s a = ap (λ (x : Slot). record x { last = length h }) a.slot

pub at_end : (p : Shape) (h : List Entry) (q : Planned) (list : List ℕ) (s : Slot) → IsAt p h q list s → s.last ≡ length h
    → s ≡ slot_of p h q list
at_end p h q list s a whole = ap (λ (n : ℕ). record s { last = n }) whole ∙ at_whole p h q list s a

after_last : (h : List Entry) (x : Slot) (ls : List ℕ) (l : ℕ) → slot_after h x (ls ++ l ∷ []) ≡ passed_at h l (slot_after h x ls)
after_last h x [] l = refl
after_last h x (k ∷ ls) l = after_last h (passed_at h k x) ls l

-- the next cut is passed
pub slot_passed : (p : Shape) (h : List Entry) (q : Planned) (list : List ℕ) (t : Taken)
    → cut h (slot_of p h q list) ≡ Some t
    → slot_after h (begun p h q) (list ++ length h ∷ []) ≡ passed (slot_of p h q list) t
slot_passed p h q list t is = after_last h (begun p h q) list (length h) ∙ ap (by_cut (slot_of p h q list)) is

pub at_passed : (p : Shape) (h : List Entry) (q : Planned) (list : List ℕ) (s : Slot) (t : Taken) → IsAt p h q list s
    → s.last ≡ length h → cut h s ≡ Some t → IsAt p h q (list ++ length h ∷ []) (passed s t)
at_passed p h q list s t a whole is =
    let same = at_end p h q list s a whole in
    let next = slot_passed p h q list t (ap (cut h) (sym same) ∙ is) ∙ ap (λ (x : Slot). passed x t) (sym same) in
    record {
      some = a.some;
      based = a.based;
      within = within_last (length h) list (length h) a.within (omega arith);
      slot = sym (ap (λ (x : Slot). record x { last = (passed s t).last }) next);
      last = omega (arith, passed_last s t, whole);
    }

-- a slot that joins
pub at_joined : (p : Shape) (h : List Entry) (m : Mode) (n : ℕ) (snapshot : Snap) → 0 < n
    → IsAt p h (record { mode = m; size = n; base = length h; snapshot = snapshot }) []
    (joined (plan_of p h m n) h (rows_asked snapshot))
at_joined p h m n snapshot some =
    let all = take_all (length h) h (omega arith) in
    let slot : Slot = joined (plan_of p h m n) h (rows_asked snapshot) in
    record {
      some = some;
      based = omega arith;
      within = tt;
      slot = ap (λ (t : List Entry). record (joined (plan_of p t m n) t (rows_asked snapshot)) { last = slot.last }) (sym all);
      last = omega (arith, joined_last m (plan_of p h m n) h (rows_asked snapshot));
    }

-- a record's history has all that its cuts rest on
after_plan : (h : List Entry) (x : Slot) (ls : List ℕ) → (slot_after h x ls).plan ≡ x.plan
after_plan h x [] = refl
after_plan h x (l ∷ ls) = after_plan h (passed_at h l x) ls ∙ by_taken (cut h (record x { last = l }))
  where
    by_taken : (o : Option Taken) → (by_cut (record x { last = l }) o).plan ≡ x.plan
    by_taken None = refl
    by_taken (Some t) = passed_plan (record x { last = l }) t

-- the plan of a record is as its slot joined
abbrev pub plan_with : Shape → Planned → ℕ → Plan
plan_with p q base = record { mode = q.mode; shape = p; size = q.size; base = base }

pub at_plan : (p : Shape) (h : List Entry) (q : Planned) (list : List ℕ) (s : Slot) → IsAt p h q list s → s.plan ≡ plan_with p q q.base
at_plan p h q list s a =
    ap (λ (x : Slot). x.plan) a.slot
    ∙ (after_plan h (begun p h q) list ∙ begun_plan p h q)
    ∙ ap (plan_with p q) (length-take-le q.base h a.based)

pub at_reaches : (p : Shape) (h : List Entry) (q : Planned) (list : List ℕ) (s : Slot) → IsAt p h q list s → Reaches h s
at_reaches p h q list s a =
    let plan = ap (λ (x : Slot). x.plan) a.slot ∙ (after_plan h (begun p h q) list ∙ begun_plan p h q) in
    record {
      some = omega (arith, a.some, ap (λ (x : Plan). x.size) plan);
      based = omega (arith, a.based, ap (λ (x : Plan). x.base) plan, length-take-le q.base h a.based);
      within = a.last;
    }
