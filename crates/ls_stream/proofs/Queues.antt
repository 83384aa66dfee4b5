-- A queue from whose front an element was taken.
use Rattle.std.proofs.Common.{◌≡◌, ◌-◌, List, [], ◌∷◌, ◌++◌, length, drop, refl, sym, ◌∙◌, ap, arith, Option, Some, None}
use Rattle.std.specs.Option.{option_to_list}
use Rattle.std.proofs.lemmas.List.{length-drop}

same_without : {X : Type 0} (xs : List X) → xs ≡ drop 1 xs → xs ≡ []
same_without [] is = refl
same_without (x ∷ xs) is = absurd (let n : length (x ∷ xs) ≡ length (x ∷ xs) - 1 = ap length is ∙ length-drop 1 (x ∷ xs) in omega (arith, n))

-- there was none
pub popped_none : {X : Type 0} (o : Option X) (xs ys : List X) → o ≡ None → xs ≡ option_to_list o ++ ys → ys ≡ drop 1 xs → (xs ≡ []) × (ys ≡ [])
popped_none o xs ys none is rest =
    let same : xs ≡ ys = is ∙ ap (λ p. option_to_list p ++ ys) none in
    let empty : xs ≡ [] = same_without xs (same ∙ rest) in
    (empty, sym same ∙ empty)

-- there was this one
pub popped : {X : Type 0} (o : Option X) (xs ys : List X) (x : X) → o ≡ Some x → xs ≡ option_to_list o ++ ys → xs ≡ x ∷ ys
popped o xs ys x some is = is ∙ ap (λ p. option_to_list p ++ ys) some
