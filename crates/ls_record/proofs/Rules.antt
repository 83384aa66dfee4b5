-- What is true whether a value is found or not, and by both parts of a test.
use Rattle.std.proofs.Common.{◌≡◌, refl, ap, cond, Bool, true, false, Option, Some, None}
use Rattle.ls_record.specs.Cases.{with_found}

-- what is made of a value that may be absent, by what is true without one and with one
pub found_rule : {A B : Type 0} (P : B → Type 0) (o : Option A) (none : B) (f : A → B) → (o ≡ None → P none) → ((a : A) → o ≡ Some a → P (f a))
    → P (with_found o none f)
found_rule P None none f p q = p refl
found_rule P (Some a) none f p q = q a refl

-- what is made where none is found
pub found_none : {A B : Type 0} (o : Option A) (none : B) (f : A → B) → o ≡ None → with_found o none f ≡ none
found_none o none f is = ap (λ x. with_found x none f) is

-- what is true by both parts of a test
pub cond_rule : {A : Type 0} (P : A → Type 0) (b : Bool) (x y : A) → (b ≡ true → P x) → (b ≡ false → P y) → P (cond b x y)
cond_rule P true x y p q = p refl
cond_rule P false x y p q = q refl
