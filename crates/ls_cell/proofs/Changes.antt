-- One slot of a table changes.
use Rattle.std.proofs.Common.{◌≡◌, ℕ, zero, suc, ◌+◌, ◌-◌, ◌≤◌, ◌<◌, List, [], ◌∷◌, ◌++◌, length, Option, None, Some}
use Rattle.std.proofs.Common.{IsSome, set, get_or, drop, refl, sym, ◌∙◌, subst, arith, ap, Bool, true, false, cond}
use Rattle.std.proofs.Common.{option_and_then, is_some}
use Rattle.std.proofs.lemmas.Bool.{lt-leb}
use Rattle.std.proofs.lemmas.List.{set-get_or, set-set, get_or-set_same, get_or-set_other}
use Rattle.ls_event.specs.declared.event.Entry.{Entry}
use Rattle.ls_event.specs.Slots.{Slot}
use Rattle.ls_event.specs.declared.limits.TheConstants.{MOST_LAG}
use Rattle.ls_cell.specs.Numbered.{slot_at, set_slot, free_number, put_slot, live_slots, IsAt, EachSlot, lags}
use Rattle.ls_cell.specs.Numbered.{first_lagging, StandsAt, StandsAll}

-- within a list any default serves
pub any_default : {A : Type 0} (xs : List A) (i : ℕ) (d e : A) → i < length xs → get_or xs i d ≡ get_or xs i e
any_default [] i d e low = absurd (omega (arith, low))
any_default (x ∷ xs) zero d e low = refl
any_default (x ∷ xs) (suc i) d e low = any_default xs i d e (omega (arith, low))

-- a number with a slot is one of the table
pub record IsWithin {B : Type 0} (bs : List (Option B)) (n : ℕ) : Type 0 where
  pub some : 0 < n
  pub low : n - 1 < length bs
  pub value : (d : Option B) → get_or bs (n - 1) d ≡ slot_at bs n

get_or_within : {B : Type 0} (bs : List (Option B)) (i : ℕ) → IsSome (get_or bs i None) → i < length bs
get_or_within [] zero live = cc
get_or_within [] (suc i) live = cc
get_or_within (b ∷ bs) zero live = omega arith
get_or_within (b ∷ bs) (suc i) live = omega (arith, get_or_within bs i live)

pub within : {B : Type 0} (bs : List (Option B)) (n : ℕ) → IsSome (slot_at bs n) → IsWithin bs n
within bs zero live = cc
within bs (suc i) live =
    let low : i < length bs = get_or_within bs i live in
    record {
      some = omega arith;
      low = omega (arith, low);
      value =
          λ d. ap (λ k. get_or bs k d) {x = suc i - 1} {y = i} (omega arith) ∙ any_default bs i d None low;
    }

-- what stands at the index of a number
pub slot_read : {B : Type 0} (bs : List (Option B)) (n : ℕ) (b : Option B) → IsSome (slot_at bs n)
    → b ≡ get_or bs (n - 1) b → b ≡ slot_at bs n
slot_read bs n b live value = value ∙ (within bs n live).value b

-- it is live where the slot of that number is
pub read_live : {B : Type 0} (bs : List (Option B)) (n : ℕ) (b : Option B) → IsSome (slot_at bs n)
    → b ≡ get_or bs (n - 1) b → IsSome b
read_live bs n b live value = subst (λ o. IsSome o) (sym (slot_read bs n b live value)) live

-- a slot is live at the index of its number
pub live_at : {B : Type 0} (bs : List (Option B)) (n : ℕ) → IsSome (slot_at bs n) → IsSome (get_or bs (n - 1) None)
live_at bs n live = subst (λ o. IsSome o) (sym ((within bs n live).value None)) live

-- what stands at the number, in a table that is the same
pub here : {B : Type 0} (items now : List (Option B)) (n : ℕ) (b : Option B) → items ≡ now → IsSome (slot_at now n)
    → b ≡ get_or items (n - 1) b → b ≡ slot_at now n
here items now n b same live value =
    slot_read items n b (subst (λ t. IsSome (slot_at t n)) (sym same) live) value ∙ ap (λ t. slot_at t n) same

-- and what is put there
pub put_there : {B : Type 0} (items now : List (Option B)) (n : ℕ) (b : Option B) → items ≡ now → IsSome (slot_at now n)
    → slot_at (set_slot items n b) n ≡ b
put_there items now zero b same live = cc
put_there items now (suc i) b same live =
    let low = (within items (suc i) (subst (λ t. IsSome (slot_at t (suc i))) (sym same) live)).low in
    ap (λ k. get_or (set items k b) i None) {x = suc i - 1} {y = i} (omega arith)
    ∙ get_or-set_same items i b None (omega (arith, low))

slot_low : {B : Type 0} (bs : List (Option B)) (n : ℕ) → 0 < n → get_or bs (n - 1) None ≡ slot_at bs n
slot_low bs zero some = absurd (omega (arith, some))
slot_low bs (suc i) some = ap (λ k. get_or bs k None) {x = suc i - 1} {y = i} (omega arith)

free_some : {B : Type 0} (bs : List (Option B)) → 1 ≤ free_number bs
free_some [] = omega arith
free_some (None ∷ bs) = omega arith
free_some (Some b ∷ bs) = omega arith

-- a slot put at the least free number
pub set_free : {B : Type 0} (bs : List (Option B)) (b : B) (i : ℕ) → i + 1 ≡ free_number bs → i < length bs
    → set bs i (Some b) ≡ put_slot bs b
set_free [] b i free low = absurd (omega (arith, low))
set_free (None ∷ bs) b zero free low = refl
set_free (None ∷ bs) b (suc i) free low = absurd (omega (arith, free))
set_free (Some a ∷ bs) b zero free low = absurd (omega (arith, free, free_some bs))
set_free (Some a ∷ bs) b (suc i) free low = ap (λ z. Some a ∷ z)
    (set_free bs b i (omega (arith, free)) (omega (arith, low)))

pub push_free : {B : Type 0} (bs : List (Option B)) (b : B) → length bs < free_number bs
    → bs ++ Some b ∷ [] ≡ put_slot bs b
push_free [] b high = refl
push_free (None ∷ bs) b high = absurd (omega (arith, high))
push_free (Some a ∷ bs) b high = ap (λ z. Some a ∷ z) (push_free bs b (omega (arith, high)))

-- the least free number is at most one above the number of slots
pub free_low : {B : Type 0} (bs : List (Option B)) → free_number bs ≤ live_slots bs + 1
free_low [] = omega arith
free_low (None ∷ bs) = omega arith
free_low (Some b ∷ bs) = omega (arith, free_low bs)

-- from an index on, where no slot below it is free
pub free_from : {B : Type 0} (bs : List (Option B)) (i : ℕ) → i < free_number bs
    → free_number bs ≡ i + free_number (drop i bs)
free_from bs zero low = omega arith
free_from [] (suc i) low = absurd (omega (arith, low))
free_from (None ∷ bs) (suc i) low = absurd (omega (arith, low))
free_from (Some b ∷ bs) (suc i) low = omega (arith, free_from bs i (omega (arith, low)))

-- the least free number is at most one above the length
pub free_long : {B : Type 0} (bs : List (Option B)) → free_number bs ≤ length bs + 1
free_long [] = omega arith
free_long (None ∷ bs) = omega arith
free_long (Some b ∷ bs) = omega (arith, free_long bs)

-- a slot put at the least free number is one more, and the next free number is above it
pub live_put : {B : Type 0} (bs : List (Option B)) (b : B) → live_slots (put_slot bs b) ≡ live_slots bs + 1
live_put [] b = refl
live_put (None ∷ bs) b = refl
live_put (Some a ∷ bs) b = ap (λ n. n + 1) (live_put bs b)

pub free_put : {B : Type 0} (bs : List (Option B)) (b : B) → free_number bs < free_number (put_slot bs b)
free_put [] b = omega arith
free_put (None ∷ bs) b = omega (arith, free_some bs)
free_put (Some a ∷ bs) b = omega (arith, free_put bs b)

-- one live slot in place of another
pub live_kept : {B : Type 0} (bs : List (Option B)) (i : ℕ) (b : Option B) → IsSome (get_or bs i None) → IsSome b
    → live_slots (set bs i b) ≡ live_slots bs
live_kept [] zero b live new = cc
live_kept [] (suc i) b live new = cc
live_kept (None ∷ bs) zero b live new = cc
live_kept (Some a ∷ bs) zero None live new = cc
live_kept (Some a ∷ bs) zero (Some b) live new = refl
live_kept (None ∷ bs) (suc i) b live new = live_kept bs i b live new
live_kept (Some a ∷ bs) (suc i) b live new = ap (λ n. n + 1) (live_kept bs i b live new)

pub free_kept : {B : Type 0} (bs : List (Option B)) (i : ℕ) (b : Option B) → IsSome (get_or bs i None) → IsSome b
    → free_number (set bs i b) ≡ free_number bs
free_kept [] zero b live new = cc
free_kept [] (suc i) b live new = cc
free_kept (None ∷ bs) zero b live new = cc
free_kept (Some a ∷ bs) zero None live new = cc
free_kept (Some a ∷ bs) zero (Some b) live new = refl
free_kept (None ∷ bs) (suc i) b live new = refl
free_kept (Some a ∷ bs) (suc i) b live new = ap (λ n. n + 1) (free_kept bs i b live new)

-- a slot that leaves is one less, and what is free below it is as before
pub live_left : {B : Type 0} (bs : List (Option B)) (i : ℕ) → IsSome (get_or bs i None)
    → live_slots (set bs i None) + 1 ≡ live_slots bs
live_left [] zero live = cc
live_left [] (suc i) live = cc
live_left (None ∷ bs) zero live = cc
live_left (Some a ∷ bs) zero live = refl
live_left (None ∷ bs) (suc i) live = live_left bs i live
live_left (Some a ∷ bs) (suc i) live = ap (λ n. n + 1) (live_left bs i live)

pub free_left : {B : Type 0} (bs : List (Option B)) (i f : ℕ) → f < free_number bs → f ≤ i
    → f < free_number (set bs i None)
free_left [] zero f low below = low
free_left [] (suc i) f low below = low
free_left (b ∷ bs) zero f low below = omega (arith, below)
free_left (None ∷ bs) (suc i) f low below = low
free_left (Some a ∷ bs) (suc i) zero low below = omega (arith, free_some (set bs i None))
free_left (Some a ∷ bs) (suc i) (suc f) low below =
    omega (arith, free_left bs i f (omega (arith, low)) (omega (arith, below)))

pub length_put : {B : Type 0} (bs : List (Option B)) (b : B) (most : ℕ) → length bs ≤ most → free_number bs ≤ most
    → length (put_slot bs b) ≤ most
length_put [] b most long free = omega (arith, free)
length_put (None ∷ bs) b most long free = omega (arith, long)
length_put (Some a ∷ bs) b zero long free = absurd (omega (arith, long))
length_put (Some a ∷ bs) b (suc most) long free =
    omega (arith, length_put bs b most (omega (arith, long)) (omega (arith, free)))

-- what follows for each buffer follows for a slot
pub at_weaker : {B : Type 0} (P Q : B → Type 0) → ((b : B) → P b → Q b) → (o : Option B) → IsAt P o → IsAt Q o
at_weaker P Q weaker None at = tt
at_weaker P Q weaker (Some b) at = weaker b at

-- and for all slots
pub each_weaker : {B : Type 0} (P Q : B → Type 0) → ((b : B) → P b → Q b) → (bs : List (Option B)) → EachSlot P bs → EachSlot Q bs
each_weaker P Q weaker [] each = tt
each_weaker P Q weaker (b ∷ bs) each = (at_weaker P Q weaker b each.0, each_weaker P Q weaker bs each.1)

module _ {B : Type 0} (P : B → Type 0) where
  -- what is true of each slot is true of one
  pub each_at : (bs : List (Option B)) (i : ℕ) → EachSlot P bs → IsAt P (get_or bs i None)
  each_at [] zero each = tt
  each_at [] (suc i) each = tt
  each_at (b ∷ bs) zero each = each.0
  each_at (b ∷ bs) (suc i) each = each_at bs i each.1

  pub slot_each : (bs : List (Option B)) (n : ℕ) (b : Option B) → IsSome (slot_at bs n) → b ≡ get_or bs (n - 1) b
      → EachSlot P bs → IsAt P b
  slot_each bs n b live value each =
      subst (IsAt P) ((within bs n live).value None ∙ sym (slot_read bs n b live value)) (each_at bs (n - 1) each)

  pub each_set : (bs : List (Option B)) (i : ℕ) (b : Option B) → EachSlot P bs → IsAt P b → EachSlot P (set bs i b)
  each_set [] zero b each new = tt
  each_set [] (suc i) b each new = tt
  each_set (x ∷ bs) zero b each new = (new, each.1)
  each_set (x ∷ bs) (suc i) b each new = (each.0, each_set bs i b each.1 new)

  pub each_put : (bs : List (Option B)) (b : B) → EachSlot P bs → P b → EachSlot P (put_slot bs b)
  each_put [] b each new = (new, tt)
  each_put (None ∷ bs) b each new = (new, each.1)
  each_put (Some a ∷ bs) b each new = (each.0, each_put bs b each.1 new)

module _ {B : Type 0} (f : B → Slot → List Entry → Type 0) where
  -- the slot of a number stands for the record of that number
  pub stands_at : (bs : List (Option B)) (ss : List (Option Slot)) (h : List Entry) (i : ℕ) → StandsAll f bs ss h
      → StandsAt f (get_or bs i None) (get_or ss i None) h
  stands_at [] [] h zero st = tt
  stands_at [] [] h (suc i) st = tt
  stands_at [] (s ∷ ss) h i st = absurd st
  stands_at (b ∷ bs) [] h i st = absurd st
  stands_at (b ∷ bs) (s ∷ ss) h zero st = st.0
  stands_at (b ∷ bs) (s ∷ ss) h (suc i) st = stands_at bs ss h i st.1

  pub slot_stands : (bs : List (Option B)) (ss : List (Option Slot)) (h : List Entry) (n : ℕ) (b : Option B) (s : Slot)
      → IsSome (slot_at bs n) → b ≡ get_or bs (n - 1) b → StandsAll f bs ss h → slot_at ss n ≡ Some s
      → StandsAt f b (Some s) h
  slot_stands bs ss h n b s live value st is =
      let at : IsWithin bs n = within bs n live in
      subst (λ o. StandsAt f o (Some s) h) (at.value None ∙ sym (slot_read bs n b live value))
      (subst (λ o. StandsAt f (get_or bs (n - 1) None) o h) (slot_low ss n at.some ∙ is) (stands_at bs ss h (n - 1) st))

  -- one slot and its record change
  pub stands_set : (bs : List (Option B)) (ss : List (Option Slot)) (h : List Entry) (i : ℕ) (b : Option B)
      (s : Option Slot) → StandsAll f bs ss h → StandsAt f b s h → StandsAll f (set bs i b) (set ss i s) h
  stands_set [] [] h zero b s st new = tt
  stands_set [] [] h (suc i) b s st new = tt
  stands_set [] (x ∷ ss) h i b s st new = absurd st
  stands_set (y ∷ bs) [] h i b s st new = absurd st
  stands_set (y ∷ bs) (x ∷ ss) h zero b s st new = (new, st.1)
  stands_set (y ∷ bs) (x ∷ ss) h (suc i) b s st new = (st.0, stands_set bs ss h i b s st.1 new)

  -- a slot joins at the least free number
  pub stands_put : (bs : List (Option B)) (ss : List (Option Slot)) (h : List Entry) (b : B) (s : Slot)
      → StandsAll f bs ss h → f b s h → StandsAll f (put_slot bs b) (put_slot ss s) h
  stands_put [] [] h b s st new = (new, tt)
  stands_put [] (x ∷ ss) h b s st new = absurd st
  stands_put (y ∷ bs) [] h b s st new = absurd st
  stands_put (None ∷ bs) (None ∷ ss) h b s st new = (new, st.1)
  stands_put (None ∷ bs) (Some x ∷ ss) h b s st new = absurd st.0
  stands_put (Some y ∷ bs) (None ∷ ss) h b s st new = absurd st.0
  stands_put (Some y ∷ bs) (Some x ∷ ss) h b s st new = (st.0, stands_put bs ss h b s st.1 new)

  -- slots and records have the same free number, and as many are live
  pub same_free : (bs : List (Option B)) (ss : List (Option Slot)) (h : List Entry) → StandsAll f bs ss h
      → free_number bs ≡ free_number ss
  same_free [] [] h st = refl
  same_free [] (x ∷ ss) h st = absurd st
  same_free (y ∷ bs) [] h st = absurd st
  same_free (None ∷ bs) (None ∷ ss) h st = refl
  same_free (None ∷ bs) (Some x ∷ ss) h st = absurd st.0
  same_free (Some y ∷ bs) (None ∷ ss) h st = absurd st.0
  same_free (Some y ∷ bs) (Some x ∷ ss) h st = ap (λ n. n + 1) (same_free bs ss h st.1)

  pub same_live : (bs : List (Option B)) (ss : List (Option Slot)) (h : List Entry) → StandsAll f bs ss h
      → live_slots bs ≡ live_slots ss
  same_live [] [] h st = refl
  same_live [] (x ∷ ss) h st = absurd st
  same_live (y ∷ bs) [] h st = absurd st
  same_live (None ∷ bs) (None ∷ ss) h st = same_live bs ss h st.1
  same_live (None ∷ bs) (Some x ∷ ss) h st = absurd st.0
  same_live (Some y ∷ bs) (None ∷ ss) h st = absurd st.0
  same_live (Some y ∷ bs) (Some x ∷ ss) h st = ap (λ n. n + 1) (same_live bs ss h st.1)

  -- slots that lag are those whose records do
  pub same_lagging : (last : B → ℕ) → ((b : B) (s : Slot) (h : List Entry) → f b s h → last b ≡ s.last)
      → (bs : List (Option B)) (ss : List (Option Slot)) (h : List Entry) (number n : ℕ) → StandsAll f bs ss h
      → first_lagging last number n bs ≡ first_lagging (λ s. s.last) number n ss
  same_lagging last is [] [] h number n st = refl
  same_lagging last is [] (x ∷ ss) h number n st = absurd st
  same_lagging last is (y ∷ bs) [] h number n st = absurd st
  same_lagging last is (None ∷ bs) (None ∷ ss) h number n st = same_lagging last is bs ss h number (n + 1) st.1
  same_lagging last is (None ∷ bs) (Some x ∷ ss) h number n st = absurd st.0
  same_lagging last is (Some y ∷ bs) (None ∷ ss) h number n st = absurd st.0
  same_lagging last is (Some y ∷ bs) (Some x ∷ ss) h number n st =
      rw (is y x h st.0, same_lagging last is bs ss h number (n + 1) st.1) refl

-- a slot doesn't lag where none does
pub record NoneLags {B : Type 0} (last : B → ℕ) (number n : ℕ) (b : Option B) (bs : List (Option B)) : Type 0 where
  pub first : lags last number b ≡ false
  pub rest : first_lagging last number (n + 1) bs ≡ None

pub none_lags : {B : Type 0} (last : B → ℕ) (number n : ℕ) (b : Option B) (bs : List (Option B))
    → first_lagging last number n (b ∷ bs) ≡ None → NoneLags last number n b bs
none_lags last number n b bs none = by_lag (lags last number b) refl none
  where
    by_lag : (v : Bool) → lags last number b ≡ v → cond v (Some n) (first_lagging last number (n + 1) bs) ≡ None
        → NoneLags last number n b bs
    by_lag true is h = cc
    by_lag false is h = record { first = is; rest = h }

-- none lags while the least last number lags by less
pub none_lagging : {B : Type 0} (last : B → ℕ) (bs : List (Option B)) (least number n : ℕ) → EachSlot (λ b. least ≤ last b) bs
    → number < least + MOST_LAG → first_lagging last number n bs ≡ None
none_lagging last [] least number n each low = refl
none_lagging last (None ∷ bs) least number n each low = none_lagging last bs least number (n + 1) each.1 low
none_lagging last (Some b ∷ bs) least number n each low =
    rw (lt-leb (last b + MOST_LAG) number (omega (arith, each.0, low))) (none_lagging last bs least number (n + 1) each.1 low)

-- there is an element where something of it is
pub some_of : {A C : Type 0} (f : A → Option C) (o : Option A) → IsSome (option_and_then f o) → IsSome o
some_of f None some = cc
some_of f (Some a) some = refl

-- what stands at a number is put there again
pub set_same : {A : Type 0} (xs : List (Option A)) (n : ℕ) (a : A) → slot_at xs n ≡ Some a → set_slot xs n (Some a) ≡ xs
set_same xs zero a is = cc
set_same xs (suc i) a is =
    ap (λ k. set xs k (Some a)) {x = suc i - 1} {y = i} (omega arith) ∙ ap (set xs i) (sym is) ∙ set-get_or xs i None

some_is : {A : Type 0} (o : Option A) (a : A) → o ≡ Some a → IsSome o
some_is o a is = ap is_some is

-- what is put at a number stands there
pub set_at : {A : Type 0} (xs : List (Option A)) (n : ℕ) (o : Option A) (a : A) → slot_at xs n ≡ Some a
    → slot_at (set_slot xs n o) n ≡ o
set_at xs zero o a is = cc
set_at xs (suc i) o a is =
    ap (λ k. get_or (set xs k o) i None) {x = suc i - 1} {y = i} (omega arith)
    ∙ get_or-set_same xs i o None (get_or_within xs i (some_is (get_or xs i None) a is))

-- the last one that is put there counts
pub set_twice : {A : Type 0} (xs : List (Option A)) (n : ℕ) (a b : Option A)
    → set_slot (set_slot xs n a) n b ≡ set_slot xs n b
set_twice xs n a b = set-set xs (n - 1) a b

-- a slot put at the least free number stands there
put_get : {B : Type 0} (bs : List (Option B)) (b : B) (i : ℕ) → i + 1 ≡ free_number bs
    → get_or (put_slot bs b) i None ≡ Some b
put_get [] b zero free = refl
put_get [] b (suc i) free = absurd (omega (arith, free))
put_get (None ∷ bs) b zero free = refl
put_get (None ∷ bs) b (suc i) free = absurd (omega (arith, free))
put_get (Some a ∷ bs) b zero free = absurd (omega (arith, free, free_some bs))
put_get (Some a ∷ bs) b (suc i) free = put_get bs b i (omega (arith, free))

pub put_at : {B : Type 0} (bs : List (Option B)) (b : B) → slot_at (put_slot bs b) (free_number bs) ≡ Some b
put_at bs b = sym (slot_low (put_slot bs b) (free_number bs) (omega (arith, free_some bs)))
    ∙ put_get bs b (free_number bs - 1) (omega (arith, free_some bs))

-- what stands at a number may be put there again
pub set_own : {A : Type 0} (xs : List (Option A)) (n : ℕ) → IsSome (slot_at xs n) → set_slot xs n (slot_at xs n) ≡ xs
set_own xs zero live = cc
set_own xs (suc i) live = ap (λ k. set xs k (get_or xs i None)) {x = suc i - 1} {y = i} (omega arith)
    ∙ set-get_or xs i None

-- the slots of other numbers stay
pub set_other : {A : Type 0} (xs : List (Option A)) (n m : ℕ) (o : Option A) → 0 < n → (m ≡ n → ⊥)
    → slot_at (set_slot xs n o) m ≡ slot_at xs m
set_other xs n zero o some other = refl
set_other xs n (suc j) o some other = get_or-set_other xs (n - 1) j o None (λ is. other (omega (arith, is, some)))

pub put_other : {B : Type 0} (bs : List (Option B)) (b : B) (m : ℕ) → (m ≡ free_number bs → ⊥)
    → slot_at (put_slot bs b) m ≡ slot_at bs m
put_other [] b zero other = refl
put_other [] b (suc zero) other = absurd (other refl)
put_other [] b (suc (suc j)) other = refl
put_other (None ∷ bs) b zero other = refl
put_other (None ∷ bs) b (suc zero) other = absurd (other refl)
put_other (None ∷ bs) b (suc (suc j)) other = refl
put_other (Some a ∷ bs) b zero other = refl
put_other (Some a ∷ bs) b (suc zero) other = refl
put_other (Some a ∷ bs) b (suc (suc j)) other = put_other bs b (suc j) (λ is. other (omega (arith, is)))
