-- Slots that differ in their frequencies alone: the cells stand for these too.
use Rattle.std.proofs.Common.{◌≡◌, ◌==◌, ◌<◌, ℕ, suc, List, [], ◌∷◌, ◌++◌, length, map, refl, sym, ◌∙◌, ap, subst, cond, Bool, true, false, Option, Some}
use Rattle.ls_value.specs.Each.{Each}
use Rattle.ls_record.specs.Records.{Item, LiveSlot, numbers_of, is_of, with_frequency}
use Rattle.ls_cells.specs.Cells.{AllCells, is_numbered, slot_numbered, IsUnlike, Unlike, StandsCells}
use Rattle.ls_cells.proofs.Items.{SameAt, items_same}

-- a slot is another one but for its frequency, and each of a list is
abbrev pub IsLike : LiveSlot → LiveSlot → Type 0
IsLike v u = u ≡ record v { frequency = u.frequency }

abbrev pub AreLike : List LiveSlot → List LiveSlot → Type 0
AreLike [] [] = Unit {0}
AreLike [] (u ∷ us) = ⊥
AreLike (v ∷ vs) [] = ⊥
AreLike (v ∷ vs) (u ∷ us) = IsLike v u × AreLike vs us

each_like : (P : LiveSlot → Type 0) → ((v : LiveSlot) (f : Option ℕ) → P v → P (record v { frequency = f })) → (vs us : List LiveSlot) → AreLike vs us → Each P vs
    → Each P us
each_like P keeps [] [] l e = tt
each_like P keeps [] (u ∷ us) l e = absurd l
each_like P keeps (v ∷ vs) [] l e = absurd l
each_like P keeps (v ∷ vs) (u ∷ us) l e = (subst P (sym l.0) (keeps v u.frequency e.0), each_like P keeps vs us l.1 e.1)

numbered_like : (n m : ℕ) (vs us : List LiveSlot) → AreLike vs us → slot_numbered n m us ≡ slot_numbered n m vs
numbered_like n m [] [] l = refl
numbered_like n m [] (u ∷ us) l = absurd l
numbered_like n m (v ∷ vs) [] l = absurd l
numbered_like n m (v ∷ vs) (u ∷ us) l =
    ap (λ (x : LiveSlot). cond (is_numbered n m x) (Some x.slot) (slot_numbered n m us)) l.0
    ∙ ap (λ o. cond (is_numbered n m v) (Some v.slot) o) (numbered_like n m vs us l.1)

numbers_like : (n : ℕ) (vs us : List LiveSlot) → AreLike vs us → numbers_of n us ≡ numbers_of n vs
numbers_like n [] [] l = refl
numbers_like n [] (u ∷ us) l = absurd l
numbers_like n (v ∷ vs) [] l = absurd l
numbers_like n (v ∷ vs) (u ∷ us) l =
    ap (λ (x : LiveSlot). cond (n == x.item) (x.number ∷ numbers_of n us) (numbers_of n us)) l.0
    ∙ ap (λ (ns : List ℕ). cond (n == v.item) (v.number ∷ ns) ns) (numbers_like n vs us l.1)

unlike_like : (vs us : List LiveSlot) → AreLike vs us → Unlike vs → Unlike us
unlike_like [] [] l e = tt
unlike_like [] (u ∷ us) l e = absurd l
unlike_like (v ∷ vs) [] l e = absurd l
unlike_like (v ∷ vs) (u ∷ us) l e = (
  subst (λ (x : LiveSlot). IsUnlike x us) (sym l.0) (each_like (λ w. is_numbered v.item v.number w ≡ false) (λ w f p. p) vs us l.1 e.0),
  unlike_like vs us l.1 e.1,
)

length_like : (vs us : List LiveSlot) → AreLike vs us → length us ≡ length vs
length_like [] [] l = refl
length_like [] (u ∷ us) l = absurd l
length_like (v ∷ vs) [] l = absurd l
length_like (v ∷ vs) (u ∷ us) l = ap suc (length_like vs us l.1)

pub cells_like : (k : AllCells) (items : List Item) (vs us : List LiveSlot) → AreLike vs us → StandsCells k items vs → StandsCells k items us
cells_like k items vs us l st =
    record {
      cells = items_same vs us 0 k.cells items (λ n. same n) st.cells;
      unlike = unlike_like vs us l st.unlike;
      within = each_like (λ v. v.item < length items) (λ v f p. p) vs us l st.within;
      live = st.live ∙ sym (length_like vs us l);
    }
  where
    same : (n : ℕ) → SameAt vs us n
    same n = record { numbered = λ m. numbered_like n m vs us l; count = ap length (numbers_like n vs us l) }

-- slots are like themselves, and by their parts
like_self : (vs : List LiveSlot) → AreLike vs vs
like_self [] = tt
like_self (v ∷ vs) = (refl, like_self vs)

like_both : (xs ys vs us : List LiveSlot) → AreLike xs ys → AreLike vs us → AreLike (xs ++ vs) (ys ++ us)
like_both [] [] vs us a l = l
like_both [] (y ∷ ys) vs us a l = absurd a
like_both (x ∷ xs) [] vs us a l = absurd a
like_both (x ∷ xs) (y ∷ ys) vs us a l = (a.0, like_both xs ys vs us a.1 l)

like_frequency : (sub : ℕ) (f : Option ℕ) (vs : List LiveSlot) → AreLike vs (map (with_frequency sub f) vs)
like_frequency sub f [] = tt
like_frequency sub f (v ∷ vs) = (by_test (is_of sub v), like_frequency sub f vs)
  where
    by_test : (t : Bool) → IsLike v (cond t (record v { frequency = f }) v)
    by_test true = refl
    by_test false = refl

-- a subscription of one session has another frequency
pub cells_frequency : (k : AllCells) (items : List Item) (before round after : List LiveSlot) (sub : ℕ) (f : Option ℕ)
    → StandsCells k items (before ++ (round ++ after)) → StandsCells k items (before ++ (map (with_frequency sub f) round ++ after))
cells_frequency k items before round after sub f st =
    cells_like k items (before ++ (round ++ after)) (before ++ (map (with_frequency sub f) round ++ after))
    (like_both before before (round ++ after) (map (with_frequency sub f) round ++ after) (like_self before)
    (like_both round (map (with_frequency sub f) round) after after (like_frequency sub f round) (like_self after))) st
