-- The names of pairs, one by one.
use Rattle.std.proofs.Common.{◌≡◌, ◌∙◌, ℕ, List, [], ◌∷◌, ◌++◌, Bool, true, false, cond, ◌||◌, refl, ap}
use Rattle.std.specs.Str.{bytes_eq}
use Rattle.ls_form.specs.declared.form.Pair.{Pair}
use Rattle.ls_form.specs.Forms.{has_name}

pub or_cond : (b c : Bool) → cond b true c ≡ b || c
or_cond true c = refl
or_cond false c = refl

or_swap : (b c d : Bool) → b || (c || d) ≡ c || (b || d)
or_swap true true d = refl
or_swap true false d = refl
or_swap false true d = refl
or_swap false false d = refl

-- one more pair, behind the others
pub has_name-append : (ps : List Pair) (p : Pair) (name : List ℕ) → has_name (ps ++ p ∷ []) name ≡ bytes_eq p.name name || has_name ps name
has_name-append [] p name = refl
has_name-append (x ∷ ps) p name = ap (λ b. bytes_eq x.name name || b) (has_name-append ps p name)
    ∙ or_swap (bytes_eq x.name name) (bytes_eq p.name name) (has_name ps name)
