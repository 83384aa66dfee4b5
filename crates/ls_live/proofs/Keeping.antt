-- A cell that keeps its slots, or catches them up.
use Rattle.std.proofs.Common.{◌≡◌, ℕ, ◌≤◌, ◌==◌, List, [], ◌∷◌, ◌++◌, length, refl, sym, ◌∙◌, ap, subst, arith}
use Rattle.std.proofs.Common.{Bool, true, false, Option, Some, None, IsSome, is_some, eq-eqb}
use Rattle.std.proofs.lemmas.Bool.{eqb-true}
use Rattle.ls_value.specs.declared.limits.TheConstants.{GREATEST_NUMBER}
use Rattle.ls_value.proofs.Each.{each_append}
use Rattle.ls_event.specs.declared.event.Entry.{Entry}
use Rattle.ls_event.specs.Publishes.{IsHistory}
use Rattle.ls_event.specs.declared.event.Taken.{Taken}
use Rattle.ls_event.specs.Cuts.{cut}
use Rattle.ls_event.specs.Slots.{Slot, passed}
use Rattle.ls_event.specs.Textual.{Textual, TextualEvent}
use Rattle.ls_cell.specs.Numbered.{slot_at, set_slot}
use Rattle.ls_cell.specs.Standing.{StandsSlot}
use Rattle.ls_cell.specs.Any.{any_cut}
use Rattle.ls_cell.specs.Cell.{Held, StandsCell, HasSlot, cut_at, last_in}
use Rattle.ls_cell.proofs.Changes.{within, set_at, set_other, some_of}
use Rattle.ls_cell.proofs.Recorded.{same_has, recorded}
use Rattle.ls_live.specs.Live.{StandsFor, IsCaughtUp, OnlyCaughtUp, KeepsSlots}

same_record : (a : Option Slot) → IsCaughtUp a a
same_record None = tt
same_record (Some s) = (omega arith, refl)

further : (a b c : Option Slot) → IsCaughtUp a b → IsCaughtUp b c → IsCaughtUp a c
further None None None p q = tt
further None None (Some u) p q = q
further None (Some t) c p q = absurd p
further (Some s) None c p q = absurd p
further (Some s) (Some t) None p q = q
further (Some s) (Some t) (Some u) p q =
    (omega (arith, p.0, q.0), q.1 ∙ ap (λ (x : Slot). record x { last = u.last }) p.1)

-- one slot is caught up
one_slot : (ss : List (Option Slot)) (n : ℕ) (s : Slot) (last : ℕ) → slot_at ss n ≡ Some s → s.last ≤ last
    → OnlyCaughtUp ss (set_slot ss n (Some (record s { last = last })))
one_slot ss n s last is more = λ m. by_test m (m == n) refl
  where
    by_test : (m : ℕ) (v : Bool) → (m == n) ≡ v
        → IsCaughtUp (slot_at ss m) (slot_at (set_slot ss n (Some (record s { last = last }))) m)
    by_test m true t =
        let at = set_at ss n (Some (record s { last = last })) s is in
        subst (λ k. IsCaughtUp (slot_at ss k) (slot_at (set_slot ss n (Some (record s { last = last }))) k))
        (sym (eqb-true m n t))
        (subst (λ (p : Option Slot × Option Slot). IsCaughtUp p.0 p.1) (λ i. (sym is i, sym at i)) (more, refl))
    by_test m false t =
        let other : m ≡ n → ⊥ = λ e. cc (t, eq-eqb m n e) in
        let at = set_other ss n m (Some (record s { last = last })) (within ss n (ap is_some is)).some other in
        subst (λ o. IsCaughtUp (slot_at ss m) o) (sym at) (same_record (slot_at ss m))

-- nothing was done
pub keeps_same : (c : Held) (h : List Entry) → KeepsSlots c h c h
keeps_same c h ss st = (ss, λ n. same_record (slot_at ss n), st)

-- one after another
pub keeps_on : (c : Held) (h : List Entry) (d : Held) (k : List Entry) (e : Held) (l : List Entry) → KeepsSlots c h d k
    → KeepsSlots d k e l → KeepsSlots c h e l
keeps_on c h d k e l first second ss st =
    let one = first ss st in
    let two = second one.0 one.2 in
    (two.0, λ n. further (slot_at ss n) (slot_at one.0 n) (slot_at two.0 n) (one.1 n) (two.1 n), two.2)

pub some_value : {A : Type 0} (o : Option A) → IsSome o → (a : A) × (o ≡ Some a)
some_value None some = absurd cc
some_value (Some a) some = (a, refl)

-- a call on one slot, which goes on standing for its record
pub keeps_caught : (d e : Held) (slot : ℕ) (h : List Entry) → HasSlot d slot → last_in d slot ≤ last_in e slot
    → ((ss : List (Option Slot)) (h : List Entry) (s : Slot) → StandsCell d ss h → slot_at ss slot ≡ Some s
    → StandsCell e (set_slot ss slot (Some (record s { last = last_in e slot }))) h) → KeepsSlots d h e h
keeps_caught d e slot h live more step ss st =
    let some : IsSome (slot_at ss slot) = sym (same_has (StandsSlot d.item.shape) d.slots ss h slot st.slots) ∙ live in
    let s = some_value (slot_at ss slot) some in
    let was : last_in d slot ≡ s.0.last = (recorded d ss h slot s.0 st s.1).last in (
      set_slot ss slot (Some (record s.0 { last = last_in e slot })),
      one_slot ss slot s.0 (last_in e slot) s.1 (omega (arith, more, was)),
      step ss h s.0 st s.1,
    )

-- the history gets one entry more
pub keeps_added : (c : Held) (h : List Entry) (d e : Held) (now : List Entry) (x : Entry) → KeepsSlots c h d h
    → ((ss : List (Option Slot)) (h : List Entry) → StandsCell d ss h → StandsCell e ss (h ++ x ∷ []))
    → now ≡ h ++ x ∷ [] → KeepsSlots c h e now
keeps_added c h d e now x kept step is ss st =
    let one = kept ss st in (one.0, one.1, subst (StandsCell e one.0) (sym is) (step one.0 h one.2))

-- so it goes on standing
pub stands_kept : (c : Held) (h : List Entry) (d : Held) (k : List Entry) → KeepsSlots c h d k → StandsFor c h
    → StandsFor d k
stands_kept c h d k kept st = let now = kept st.0 st.1 in (now.0, now.2)

-- a slot is caught up, or passes a cut: it goes on standing
pub stands_caught : (d e : Held) (slot : ℕ) (h : List Entry) → HasSlot d slot → last_in d slot ≤ last_in e slot
    → ((ss : List (Option Slot)) (h : List Entry) (s : Slot) → StandsCell d ss h → slot_at ss slot ≡ Some s
    → StandsCell e (set_slot ss slot (Some (record s { last = last_in e slot }))) h) → StandsFor d h → StandsFor e h
stands_caught d e slot h live more step st = stands_kept d h e h (keeps_caught d e slot h live more step) st

pub stands_passed : (d e : Held) (slot : ℕ) (h : List Entry) → IsSome (cut_at d slot)
    → ((ss : List (Option Slot)) (h : List Entry) (s : Slot) (t : Taken) → StandsCell d ss h → slot_at ss slot ≡ Some s
    → cut h s ≡ Some t → StandsCell e (set_slot ss slot (Some (passed s t))) h) → StandsFor d h → StandsFor e h
stands_passed d e slot h cuts step st =
    let live : HasSlot d slot = some_of any_cut (slot_at d.slots slot) cuts in
    let s = some_value (slot_at st.0 slot) (sym (same_has (StandsSlot d.item.shape) d.slots st.0 h slot st.1.slots) ∙ live) in
    let t = some_value (cut_at d slot) cuts in (
      set_slot st.0 slot (Some (passed s.0 t.0)),
      step st.0 h s.0 t.0 st.1 s.1 (sym (recorded d st.0 h slot s.0 st.1 s.1).cut ∙ t.1),
    )

-- what a cell stands for is a history of its item
pub stands_lawful : (c : Held) (h : List Entry) → StandsFor c h → IsHistory c.item.shape h
stands_lawful c h st = st.1.history

pub stands_few : (c : Held) (h : List Entry) → StandsFor c h → length h ≤ GREATEST_NUMBER
stands_few c h st = st.1.history.few

-- an entry with texts in UTF-8 was added
pub textual_added : (h : List Entry) (e : Entry) (l : List Entry) → l ≡ h ++ e ∷ [] → TextualEvent e.event → Textual h → Textual l
textual_added h e l is t k =
    subst Textual (sym is) (each_append (λ (x : Entry). TextualEvent x.event) h (e ∷ []) k (t, tt))
