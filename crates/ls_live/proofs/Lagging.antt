-- Slots that lag are caught up one by one.
use Rattle.std.proofs.Common.{◌≡◌, ℕ, zero, suc, ◌+◌, ◌-◌, ◌<◌, ◌≤◌, List, [], ◌∷◌, refl, ◌∙◌, ap, subst, arith}
use Rattle.std.proofs.Common.{Bool, true, false, cond, Option, Some, None, IsSome, get_or, set, Result, Ok, Err}
use Rattle.std.proofs.Common.{IfErr, OnOk, nat_le}
use Rattle.std.proofs.lemmas.Bool.{le-leb, lt-leb, leb-true}
use Rattle.ls_value.specs.declared.limits.TheConstants.{GREATEST_NUMBER}
use Rattle.ls_event.specs.declared.event.Entry.{Entry}
use Rattle.ls_event.specs.declared.event.Event.{Event}
use Rattle.ls_event.specs.declared.event.PublishRefused.{PublishRefused}
use Rattle.ls_event.specs.declared.event.PublishRefused.TheVariants as refused
use Rattle.ls_event.specs.declared.limits.TheConstants.{MOST_LAG, MOST_ADAPTERS}
use Rattle.ls_event.specs.Shapes.{Shape}
use Rattle.ls_event.specs.Slots.{Slot}
use Rattle.ls_cell.specs.declared.any.AnyBuffer.{AnyBuffer}
use Rattle.ls_cell.specs.Any.{any_last}
use Rattle.ls_cell.specs.Numbered.{slot_at, set_slot, live_slots, lags, first_lagging}
use Rattle.ls_cell.specs.Standing.{last_at}
use Rattle.ls_cell.specs.Cell.{Held, StandsCell, HasSlot, refusal_of, last_in}
use Rattle.ls_live.specs.Live.{StandsFor, KeepsSlots, IsCause, cause_in, entry_of, lagging_in, lagging_count}
use Rattle.ls_live.proofs.Causes.{far_slot, lagging_is, cause_near, none_near, spent_near}
use Rattle.ls_live.proofs.Keeping.{keeps_same, keeps_on, keeps_caught, stands_kept}

module _ {B : Type 0} (last : B → ℕ) (number : ℕ) where
  few_by : (v : Bool) (n m : ℕ) → n ≤ m → cond v (n + 1) n ≤ m + 1
  few_by true n m le = omega (arith, le)
  few_by false n m le = omega (arith, le)

  -- no more than are live
  pub far_few : (bs : List (Option B)) → lagging_count last number bs ≤ live_slots bs
  far_few [] = omega arith
  far_few (None ∷ bs) = far_few bs
  far_few (Some b ∷ bs) = few_by (lags last number (Some b)) (lagging_count last number bs) (live_slots bs) (far_few bs)

  none_by : (v : Bool) (n count : ℕ) (rest : Option ℕ) → cond v (count + 1) count ≡ 0 → (count ≡ 0 → rest ≡ None)
      → cond v (Some n) rest ≡ None
  none_by true n count rest is more = absurd (omega (arith, is))
  none_by false n count rest is more = more is

  pub far_none : (bs : List (Option B)) (n : ℕ) → lagging_count last number bs ≡ 0 → first_lagging last number n bs ≡ None
  far_none [] n is = refl
  far_none (b ∷ bs) n is =
      none_by (lags last number b) n (lagging_count last number bs) (first_lagging last number (n + 1) bs) is (λ e. far_none bs (n + 1) e)

  -- the first one that lags
  pub record Lags (bs : List (Option B)) (n m : ℕ) : Type 0 where
    pub index : ℕ
    pub number_is : m ≡ n + index
    pub lags_is : lags last number (get_or bs index None) ≡ true

  found_by : (v : Bool) (b : Option B) (bs : List (Option B)) (n m : ℕ) (rest : Option ℕ) → lags last number b ≡ v
      → cond v (Some n) rest ≡ Some m → (rest ≡ Some m → Lags bs (n + 1) m) → Lags (b ∷ bs) n m
  found_by true b bs n m rest here is more =
      let same : n ≡ m = cc in record { index = 0; number_is = omega (arith, same); lags_is = here }
  found_by false b bs n m rest here is more =
      let l = more is in record { index = suc l.index; number_is = omega (arith, l.number_is); lags_is = l.lags_is }

  pub far_found : (bs : List (Option B)) (n m : ℕ) → first_lagging last number n bs ≡ Some m → Lags bs n m
  far_found [] n m is = absurd cc
  far_found (b ∷ bs) n m is =
      found_by (lags last number b) b bs n m (first_lagging last number (n + 1) bs) refl is (λ e. far_found bs (n + 1) m e)

  -- one that lags no longer is one less
  set_by : (v : Bool) (n m : ℕ) → n + 1 ≡ m → cond v (n + 1) n + 1 ≡ cond v (m + 1) m
  set_by true n m is = omega (arith, is)
  set_by false n m is = is

  pub far_set : (bs : List (Option B)) (i : ℕ) (b : Option B) → lags last number (get_or bs i None) ≡ true
      → lags last number b ≡ false → lagging_count last number (set bs i b) + 1 ≡ lagging_count last number bs
  far_set [] zero b was is = absurd cc
  far_set [] (suc i) b was is = absurd cc
  far_set (x ∷ bs) zero b was is = rw (was, is) refl
  far_set (x ∷ bs) (suc i) b was is =
      set_by (lags last number x) (lagging_count last number (set bs i b)) (lagging_count last number bs) (far_set bs i b was is)

  -- one that lags only if it did is none more
  no_more_by : (was now : Bool) (n m : ℕ) → (now ≡ true → was ≡ true) → n ≡ m → cond now (n + 1) n ≤ cond was (m + 1) m
  no_more_by true true n m only is = omega (arith, is)
  no_more_by true false n m only is = omega (arith, is)
  no_more_by false true n m only is = absurd (let no = only refl in cc)
  no_more_by false false n m only is = omega (arith, is)

  rest_by : (v : Bool) (n m : ℕ) → n ≤ m → cond v (n + 1) n ≤ cond v (m + 1) m
  rest_by true n m le = omega (arith, le)
  rest_by false n m le = le

  pub far_no_more : (bs : List (Option B)) (i : ℕ) (b : Option B)
      → (lags last number b ≡ true → lags last number (get_or bs i None) ≡ true)
      → lagging_count last number (set bs i b) ≤ lagging_count last number bs
  far_no_more [] i b only = omega arith
  far_no_more (x ∷ bs) zero b only =
      no_more_by (lags last number x) (lags last number b) (lagging_count last number bs) (lagging_count last number bs) only refl
  far_no_more (x ∷ bs) (suc i) b only =
      rest_by (lags last number x) (lagging_count last number (set bs i b)) (lagging_count last number bs)
      (far_no_more bs i b only)

  live_by : (o : Option B) → lags last number o ≡ true → IsSome o
  live_by None is = absurd cc
  live_by (Some b) is = refl

-- a slot that has all of the events doesn't lag
near_by : (number : ℕ) (o : Option AnyBuffer) → last_at o ≡ number → lags any_last number o ≡ false
near_by number None is = refl
near_by number (Some b) is = lt-leb (any_last b + MOST_LAG) number (omega (arith, is))

-- the slot that is named is live
pub far_live : (c : Held) (adapter seq : ℕ) (event : Event) (slot : ℕ)
    → refusal_of c (entry_of adapter seq event) ≡ Some (refused.Backlog slot) → HasSlot c slot
far_live c adapter seq event slot is =
    let l = far_found any_last c.number c.slots 1 slot (far_slot c adapter seq event slot is) in
    subst (λ (n : ℕ). IsSome (slot_at c.slots n)) {x = suc l.index} {y = slot} (omega (arith, l.number_is))
    (live_by any_last c.number (get_or c.slots l.index None) l.lags_is)

-- what a cell has become, after so many slots were caught up
pub record Goes (c d : Held) (i : ℕ) : Type 0 where
  pub shape : d.item.shape ≡ c.item.shape
  pub fewer : lagging_count any_last d.number d.slots + i ≤ live_slots c.slots
  pub keeps : (h : List Entry) → KeepsSlots c h d h

pub goes_first : (c : Held) (i : ℕ) → i ≡ 0 → Goes c c i
goes_first c i is =
    record { shape = refl; fewer = omega (arith, is, far_few any_last c.number c.slots); keeps = λ h. keeps_same c h }

-- a cell that stood for a history stands for it
goes_for : (c d : Held) (i : ℕ) (h : List Entry) → Goes c d i → StandsFor c h → StandsFor d h
goes_for c d i h g st = stands_kept c h d h (g.keeps h) st

pub goes_next : (c d e : Held) (adapter seq : ℕ) (event : Event) (slot i : ℕ) → Goes c d i
    → refusal_of d (entry_of adapter seq event) ≡ Some (refused.Backlog slot)
    → e ≡ record d { slots = set_slot d.slots slot (slot_at e.slots slot) } → last_in e slot ≡ d.number
    → last_in d slot ≤ last_in e slot → ((ss : List (Option Slot)) (h : List Entry) (s : Slot) → StandsCell d ss h → slot_at ss slot ≡ Some s
    → StandsCell e (set_slot ss slot (Some (record s { last = last_in e slot }))) h) → Goes c e (i + 1)
goes_next c d e adapter seq event slot i g is rest all more step =
    let l = far_found any_last d.number d.slots 1 slot (far_slot d adapter seq event slot is) in
    let index : l.index ≡ slot - 1 = omega (arith, l.number_is) in
    let less : lagging_count any_last d.number (set_slot d.slots slot (slot_at e.slots slot)) + 1
    ≡ lagging_count any_last d.number d.slots =
    far_set any_last d.number d.slots (slot - 1) (slot_at e.slots slot)
    (subst (λ (n : ℕ). lags any_last d.number (get_or d.slots n None) ≡ true) index l.lags_is)
    (near_by d.number (slot_at e.slots slot) all) in
    let same : lagging_count any_last e.number e.slots
    ≡ lagging_count any_last d.number (set_slot d.slots slot (slot_at e.slots slot)) =
    ap (λ (v : Held). lagging_count any_last v.number v.slots) rest in
    record {
      shape = ap (λ (v : Held). v.item.shape) rest ∙ g.shape;
      fewer = omega (arith, g.fewer, less, same);
      keeps = λ h. keeps_on c h d h e h (g.keeps h) (keeps_caught d e slot h (far_live d adapter seq event slot is) more step);
    }

-- a slot that has more of the events lags only if it did
lags_down : (number : ℕ) (was now : Option AnyBuffer) → IsSome was → last_at was ≤ last_at now
    → lags any_last number now ≡ true → lags any_last number was ≡ true
lags_down number None now live more is = absurd cc
lags_down number (Some b) None live more is = absurd cc
lags_down number (Some b) (Some c) live more is =
    le-leb (any_last b + MOST_LAG) number (omega (arith, more, leb-true (any_last c + MOST_LAG) number is))

-- what a cell has become, where slots were caught up and no more of them lag
pub record GoesOn (c d : Held) : Type 0 where
  pub shape : d.item.shape ≡ c.item.shape
  pub number : d.number ≡ c.number
  pub fewer : lagging_count any_last d.number d.slots ≤ lagging_count any_last c.number c.slots
  pub keeps : (h : List Entry) → KeepsSlots c h d h

pub goes_on_first : (c : Held) → GoesOn c c
goes_on_first c = record { shape = refl; number = refl; fewer = omega arith; keeps = λ h. keeps_same c h }

-- no more lag where one slot has more of the events
fewer_so : (d e : Held) (slot : ℕ) → HasSlot d slot
    → e ≡ record d { slots = set_slot d.slots slot (slot_at e.slots slot) } → last_in d slot ≤ last_in e slot
    → lagging_count any_last e.number e.slots ≤ lagging_count any_last d.number d.slots
fewer_so d e zero live rest more = absurd cc
fewer_so d e (suc i) live rest more =
    let now = slot_at e.slots (suc i) in
    let no_more : lagging_count any_last d.number (set d.slots i now) ≤ lagging_count any_last d.number d.slots =
    far_no_more any_last d.number d.slots i now (lags_down d.number (slot_at d.slots (suc i)) now live more) in
    let same : lagging_count any_last e.number e.slots ≡ lagging_count any_last d.number (set_slot d.slots (suc i) now) =
    ap (λ (v : Held). lagging_count any_last v.number v.slots) rest in
    let there : suc i - 1 ≡ i = omega arith in
    let moved = ap (λ n. lagging_count any_last d.number (set d.slots n now)) there in
    omega (arith, no_more, same, moved)

pub goes_on_next : (c d e : Held) (slot : ℕ) → GoesOn c d → HasSlot d slot
    → e ≡ record d { slots = set_slot d.slots slot (slot_at e.slots slot) } → last_in d slot ≤ last_in e slot
    → ((ss : List (Option Slot)) (h : List Entry) (s : Slot) → StandsCell d ss h → slot_at ss slot ≡ Some s
    → StandsCell e (set_slot ss slot (Some (record s { last = last_in e slot }))) h) → GoesOn c e
goes_on_next c d e slot g live rest more step = record {
  shape = ap (λ (v : Held). v.item.shape) rest ∙ g.shape;
  number = ap (λ (v : Held). v.number) rest ∙ g.number;
  fewer = omega (arith, fewer_so d e slot live rest more, g.fewer);
  keeps = λ h. keeps_on c h d h e h (g.keeps h) (keeps_caught d e slot h live more step);
}

-- after one slot was caught up others were
pub goes_others : (c d e : Held) (i : ℕ) → Goes c d i → e.item.shape ≡ d.item.shape → lagging_count any_last e.number e.slots
    ≤ lagging_count any_last d.number d.slots → ((h : List Entry) → KeepsSlots d h e h) → Goes c e i
goes_others c d e i g shape fewer keeps = record {
  shape = shape ∙ g.shape;
  fewer = omega (arith, g.fewer, fewer);
  keeps = λ h. keeps_on c h d h e h (g.keeps h) (keeps h);
}

-- after as many as are live none lags
pub goes_last : (c d : Held) (i n : ℕ) → Goes c d i → n ≡ live_slots c.slots → n ≤ i
    → first_lagging any_last d.number 1 d.slots ≡ None
goes_last c d i n g live all =
    far_none any_last d.number d.slots 1 (omega (arith, g.fewer, live, all))

none_by_lag : (c : Held) (adapter seq : ℕ) (event : Event) (r : Result (Unit {0}) PublishRefused) (o : Option ℕ)
    → IfErr r (λ e. refusal_of c (entry_of adapter seq event) ≡ Some e) → first_lagging any_last c.number 1 c.slots ≡ None
    → lagging_in r ≡ o → lagging_in r ≡ None
none_by_lag c adapter seq event r None err none is = is
none_by_lag c adapter seq event r (Some slot) err none is =
    let far = far_slot c adapter seq event slot (lagging_is r (refusal_of c (entry_of adapter seq event)) slot err is) in absurd cc

-- where none lags, an answer names none
pub none_lagging : (c : Held) (adapter seq : ℕ) (event : Event) (r : Result (Unit {0}) PublishRefused)
    → IfErr r (λ e. refusal_of c (entry_of adapter seq event) ≡ Some e) → first_lagging any_last c.number 1 c.slots ≡ None
    → lagging_in r ≡ None
none_lagging c adapter seq event r err none = none_by_lag c adapter seq event r (lagging_in r) err none refl

-- an answer that names no slot is, for all that the cell stood for, the cause without slots
pub refused_all : (c d : Held) (i : ℕ) (adapter seq : ℕ) (event : Event) (r : Result (Unit {0}) PublishRefused)
    → Goes c d i → adapter ≤ MOST_ADAPTERS → lagging_in r ≡ None
    → IfErr r (λ e. refusal_of d (entry_of adapter seq event) ≡ Some e)
    → IfErr r (λ e. (h : List Entry) → StandsFor c h
    → IsCause (cause_in c.item.shape h (entry_of adapter seq event)) e)
refused_all c d i adapter seq event (Ok a) g range free err = tt
refused_all c d i adapter seq event (Err e) g range free err = λ h st.
    subst (λ (p : Shape). IsCause (cause_in p h (entry_of adapter seq event)) e) g.shape
    (cause_near d h adapter seq event e (goes_for c d i h g st) range free err)

pub admitted_all : (c d : Held) (i : ℕ) (adapter seq : ℕ) (event : Event) (r : Result (Unit {0}) PublishRefused)
    → Goes c d i → adapter ≤ MOST_ADAPTERS → OnOk r (refusal_of d (entry_of adapter seq event) ≡ None)
    → OnOk r ((h : List Entry) → StandsFor c h → cause_in c.item.shape h (entry_of adapter seq event) ≡ None)
admitted_all c d i adapter seq event (Err e) g range ok = tt
admitted_all c d i adapter seq event (Ok a) g range ok = λ h st.
    subst (λ (p : Shape). cause_in p h (entry_of adapter seq event) ≡ None) g.shape
    (none_near d h adapter seq event (goes_for c d i h g st) range ok)

-- where a slot lags, the cause without slots is by the number of events alone
pub far_all : (c d : Held) (i : ℕ) (adapter seq : ℕ) (event : Event) (slot : ℕ) (h : List Entry)
    → Goes c d i → adapter ≤ MOST_ADAPTERS → refusal_of d (entry_of adapter seq event) ≡ Some (refused.Backlog slot)
    → StandsFor c h → cause_in c.item.shape h (entry_of adapter seq event)
    ≡ cond (nat_le GREATEST_NUMBER d.number) (Some refused.Spent) None
far_all c d i adapter seq event slot h g range is st =
    subst (λ (p : Shape). cause_in p h (entry_of adapter seq event)
    ≡ cond (nat_le GREATEST_NUMBER d.number) (Some refused.Spent) None) g.shape
    (spent_near d h adapter seq event slot (goes_for c d i h g st) range is)

pub spent_all : (number : ℕ) → GREATEST_NUMBER ≤ number
    → cond (nat_le GREATEST_NUMBER number) (Some refused.Spent) None ≡ Some refused.Spent
spent_all number full = ap (λ v. cond v (Some refused.Spent) None) (le-leb GREATEST_NUMBER number full)

pub few_all : (number : ℕ) → number < GREATEST_NUMBER
    → cond (nat_le GREATEST_NUMBER number) (Some refused.Spent) None ≡ None
few_all number few = ap (λ v. cond v (Some refused.Spent) None) (lt-leb GREATEST_NUMBER number few)
