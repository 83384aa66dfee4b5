-- How many slots of an item are live, and the least free number, as one slot joins or leaves.
use Rattle.std.proofs.Common.{◌≡◌, ℕ, zero, suc, ◌+◌, ◌-◌, ◌<◌, ◌≤◌, List, [], ◌∷◌, refl, ◌∙◌, ap, arith, true}
use Rattle.std.proofs.Common.{Option, Some, None, is_some, get_or, set}
use Rattle.ls_cell.specs.Numbered.{slot_at, set_slot, put_slot, live_slots, free_number}

-- a slot that is live has a number from 1
pub some_number : {B : Type 0} (bs : List (Option B)) (n : ℕ) (b : B) → slot_at bs n ≡ Some b → 0 < n
some_number bs zero b is = absurd (let x : None ≡ Some b = is in cc)
some_number bs (suc n) b is = omega arith

-- one takes a live slot's place
live_set : {B : Type 0} (bs : List (Option B)) (i : ℕ) (a b : B) → get_or bs i None ≡ Some a → live_slots (set bs i (Some b)) ≡ live_slots bs
live_set [] zero a b is = cc
live_set [] (suc i) a b is = cc
live_set (None ∷ bs) zero a b is = cc
live_set (Some x ∷ bs) zero a b is = refl
live_set (None ∷ bs) (suc i) a b is = live_set bs i a b is
live_set (Some x ∷ bs) (suc i) a b is = ap (λ n. n + 1) (live_set bs i a b is)

pub live_slot_set : {B : Type 0} (bs : List (Option B)) (n : ℕ) (a b : B) → slot_at bs n ≡ Some a → live_slots (set_slot bs n (Some b)) ≡ live_slots bs
live_slot_set bs zero a b is = cc
live_slot_set bs (suc i) a b is =
    ap (λ k. live_slots (set bs k (Some b))) {x = suc i - 1} {y = i} (omega arith) ∙ live_set bs i a b is

-- one leaves
live_unset : {B : Type 0} (bs : List (Option B)) (i : ℕ) (a : B) → get_or bs i None ≡ Some a → live_slots (set bs i None) + 1 ≡ live_slots bs
live_unset [] zero a is = cc
live_unset [] (suc i) a is = cc
live_unset (None ∷ bs) zero a is = cc
live_unset (Some x ∷ bs) zero a is = refl
live_unset (None ∷ bs) (suc i) a is = live_unset bs i a is
live_unset (Some x ∷ bs) (suc i) a is = ap (λ n. n + 1) (live_unset bs i a is)

pub live_slot_unset : {B : Type 0} (bs : List (Option B)) (n : ℕ) (a : B) → slot_at bs n ≡ Some a → live_slots (set_slot bs n None) + 1 ≡ live_slots bs
live_slot_unset bs zero a is = cc
live_slot_unset bs (suc i) a is =
    ap (λ k. live_slots (set bs k None) + 1) {x = suc i - 1} {y = i} (omega arith) ∙ live_unset bs i a is

-- one joins
pub live_put : {B : Type 0} (bs : List (Option B)) (b : B) → live_slots (put_slot bs b) ≡ live_slots bs + 1
live_put [] b = refl
live_put (None ∷ bs) b = refl
live_put (Some a ∷ bs) b = ap (λ n. n + 1) (live_put bs b)

pub free_from_one : {B : Type 0} (bs : List (Option B)) → 1 ≤ free_number bs
free_from_one [] = omega arith
free_from_one (None ∷ bs) = omega arith
free_from_one (Some b ∷ bs) = omega arith

-- no slot has the least free number
pub free_none : {B : Type 0} (bs : List (Option B)) (n : ℕ) → n ≡ free_number bs → slot_at bs n ≡ None
free_none bs zero free = refl
free_none [] (suc zero) free = refl
free_none [] (suc (suc i)) free = refl
free_none (None ∷ bs) (suc zero) free = refl
free_none (None ∷ bs) (suc (suc i)) free = absurd (omega (arith, free))
free_none (Some a ∷ bs) (suc zero) free = absurd (omega (arith, free, free_from_one bs))
free_none (Some a ∷ bs) (suc (suc i)) free = free_none bs (suc i) (omega (arith, free))

-- each number below it is in use
pub free_least : {B : Type 0} (bs : List (Option B)) (n : ℕ) → 0 < n → n < free_number bs → is_some (slot_at bs n) ≡ true
free_least bs zero some low = absurd (omega (arith, some))
free_least [] (suc i) some low = absurd (omega (arith, low))
free_least (None ∷ bs) (suc i) some low = absurd (omega (arith, low))
free_least (Some a ∷ bs) (suc zero) some low = refl
free_least (Some a ∷ bs) (suc (suc i)) some low = free_least bs (suc i) (omega arith) (omega (arith, low))
