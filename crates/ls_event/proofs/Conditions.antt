-- Tests of numbers, what holds under a test, and what holds of each element.
use Rattle.std.proofs.Common.{◌≡◌, ℕ, zero, suc, ◌<◌, ◌≤◌, List, [], ◌∷◌, refl, arith, subst, Bool, true, false, cond, Some, None, nat_lt, slice_get, All}
use Rattle.std.proofs.lemmas.Bool.{ltb-true, ltb-false}
use Rattle.std.proofs.lemmas.Option.{slice_get_within, get_or_from_slice_get}

pub below : (a b : ℕ) → a < b → nat_lt a b ≡ true
below a b low = by_test (nat_lt a b) refl
  where
    by_test : (v : Bool) → nat_lt a b ≡ v → v ≡ true
    by_test true t = refl
    by_test false t = absurd (omega (arith, low, ltb-false a b t))

pub not_below : (a b : ℕ) → b ≤ a → nat_lt a b ≡ false
not_below a b low = by_test (nat_lt a b) refl
  where
    by_test : (v : Bool) → nat_lt a b ≡ v → v ≡ false
    by_test false t = refl
    by_test true t = absurd (omega (arith, low, ltb-true a b t))

-- there is something only under the condition
pub some_cond : {A : Type 0} (v : Bool) (x t : A) → cond v (Some x) None ≡ Some t → v ≡ true
some_cond true x t h = refl
some_cond false x t h = cc

-- what is equal under the condition
pub cond_same : {A : Type 0} (v : Bool) (x y z : A) → (v ≡ true → x ≡ y) → cond v x z ≡ cond v y z
cond_same true x y z h = h refl
cond_same false x y z h = refl

pub all_one : {A : Type 0} (P : A → Type 0) (x : A) → P x → All P (x ∷ [])
all_one P x p zero d within = p
all_one P x p (suc k) d within = absurd (omega (arith, within))

pub all_at : {A : Type 0} (P : A → Type 0) (xs : List A) (i : ℕ) (x : A) → All P xs → slice_get xs i ≡ Some x → P x
all_at P xs i x all at = subst P (get_or_from_slice_get xs i x x at) (all i x (slice_get_within xs i x at))
