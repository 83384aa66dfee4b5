-- What stands at an index of a list.
use Rattle.std.proofs.Common.{◌≡◌, ℕ, zero, suc, ◌<◌, List, [], ◌∷◌, length, sym, ap, arith, Bool, true, false, Option, Some, IsSome, get_or, set, ◌∙◌}
use Rattle.std.proofs.Common.{slice_get, option_and_then}
use Rattle.std.specs.Option.{option_map_or}
use Rattle.std.proofs.lemmas.List.{set-get_or}

pub got : {A : Type 0} (xs : List A) (j : ℕ) (x : A) → j < length xs → x ≡ get_or xs j x → slice_get xs j ≡ Some x
got [] j x low is = absurd (omega (arith, low))
got (y ∷ xs) zero x low is = ap (λ z. Some z) (sym is)
got (y ∷ xs) (suc j) x low is = got xs j x (omega (arith, low)) is

-- there is an element at an index where something of it is
pub some_low : {A C : Type 0} (f : A → Option C) (xs : List A) (j : ℕ) → IsSome (option_and_then f (slice_get xs j)) → j < length xs
some_low f [] j some = cc
some_low f (x ∷ xs) zero some = omega arith
some_low f (x ∷ xs) (suc j) some = omega (arith, some_low f xs j some)

pub true_low : {A : Type 0} (f : A → Bool) (xs : List A) (j : ℕ) → option_map_or f (slice_get xs j) false ≡ true → j < length xs
true_low f [] j is = cc
true_low f (x ∷ xs) zero is = omega arith
true_low f (x ∷ xs) (suc j) is = omega (arith, true_low f xs j is)

-- the same is put back
pub set_back : {A : Type 0} (xs : List A) (j : ℕ) (x y : A) → x ≡ get_or xs j x → y ≡ x → set xs j y ≡ xs
set_back xs j x y is same = ap (set xs j) (same ∙ is) ∙ set-get_or xs j x
