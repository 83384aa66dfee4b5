-- Slots that leave one after another.
use Rattle.std.proofs.Common.{◌≡◌, ℕ, zero, suc, ◌+◌, ◌<◌, ◌≤◌, List, [], ◌∷◌, ◌++◌, length, map, drop, refl, sym, ◌∙◌, ap, arith, subst, slice_index_or}
use Rattle.std.proofs.lemmas.List.{length-map}
use Rattle.ls_record.specs.Records.{Item, LiveSlot}
use Rattle.ls_subs.specs.Standing.{ref_of}
use Rattle.ls_turns.specs.declared.slot_ref.SlotRef.{SlotRef}
use Rattle.ls_acts.specs.Joining.{Leave, LeftSoFar}

-- the slot that is named at a place, and those behind it
pub record NamedAt (vs : List LiveSlot) (n : ℕ) (r : SlotRef) : Type 0 where
  pub live : LiveSlot
  pub named : ref_of live ≡ r
  pub is : drop n vs ≡ live ∷ drop (n + 1) vs

pub named_at : (vs : List LiveSlot) (n : ℕ) (slots : List SlotRef) (d : SlotRef) → slots ≡ map ref_of vs → n < length slots
    → NamedAt vs n (slice_index_or slots n d)
named_at vs n slots d is low =
    subst (λ (xs : List SlotRef). NamedAt vs n (slice_index_or xs n d)) (sym is) (rest vs n (subst (λ (xs : List SlotRef). n < length xs) is low))
  where
    rest : (vs : List LiveSlot) (n : ℕ) → n < length (map ref_of vs) → NamedAt vs n (slice_index_or (map ref_of vs) n d)
    rest [] n low = absurd (omega (arith, low))
    rest (v ∷ vs) zero low = record { live = v; named = refl; is = refl }
    rest (v ∷ vs) (suc n) low =
        let m = rest vs n (omega (arith, low)) in
        record {
          live = m.live;
          named = m.named;
          is = m.is ∙ ap (λ k. m.live ∷ drop k (v ∷ vs)) {x = suc (n + 1)} {y = suc n + 1} (omega arith);
        }

pub left_next : (stands stands' : List Item → List LiveSlot → Type 0) (items : List Item) (vs left : List LiveSlot) (n : ℕ) (slots : List SlotRef) (d : SlotRef) → slots ≡ map ref_of vs
    → n < length slots → LeftSoFar stands items vs left n
    → ((its : List Item) (a b : List LiveSlot) (v : LiveSlot) → stands its (a ++ v ∷ b) → v.item ≡ (slice_index_or slots n d).item
    → v.number ≡ (slice_index_or slots n d).slot → stands' its (a ++ b))
    → LeftSoFar stands' items vs left (n + 1)
left_next k k' items vs left n slots d is low so step =
    let m = named_at vs n slots d is low in
    let rest : Leave (m.live ∷ drop (n + 1) vs) so.lives left = subst (λ (xs : List LiveSlot). Leave xs so.lives left) m.is so.rest in
    record {
      lives = rest.0 ++ rest.1;
      slots = step items rest.0 rest.1 m.live (subst (λ (xs : List LiveSlot). k items xs) rest.2 so.slots)
          (ap (λ (x : SlotRef). x.item) m.named) (ap (λ (x : SlotRef). x.slot) m.named);
      rest = rest.3;
    }

pub all_left : (stands : List Item → List LiveSlot → Type 0) (items : List Item) (vs left : List LiveSlot) (n : ℕ) (slots : List SlotRef) → slots ≡ map ref_of vs → length slots ≤ n
    → LeftSoFar stands items vs left n → stands items left
all_left k items vs left n slots is high so =
    subst (λ (xs : List LiveSlot). k items xs) (subst (λ (xs : List LiveSlot). Leave xs so.lives left) (none vs n within) so.rest) so.slots
  where
    within : length vs ≤ n
    within = omega (arith, ap length is, length-map vs ref_of, high)

    none : (vs : List LiveSlot) (n : ℕ) → length vs ≤ n → drop n vs ≡ []
    none [] zero high = refl
    none [] (suc n) high = refl
    none (v ∷ vs) zero high = absurd (omega (arith, high))
    none (v ∷ vs) (suc n) high = none vs n (omega (arith, high))
