-- The row of a key, after another key's row was set or removed.
use Rattle.std.proofs.Common.{◌≡◌, ◌==◌, ℕ, List, [], ◌∷◌, refl, ◌∙◌, ap, cond, ◌&&◌, Some, None}
use Rattle.std.specs.FinMap as finite
use Rattle.std.specs.FinMap.{get-insert, get-remove}
use Rattle.std.specs.Ordering.{nat_cmp, eq_by_cmp}
use Rattle.std.specs.Cmp.{eq_by_cmp_equiv}
use Rattle.std.specs.Cmp.Lexicographic.{slice_cmp, nat_list_cmp_total}
use Rattle.std.specs.Str.{bytes_eq}
use Rattle.std.proofs.lemmas.Map.Text.{is_eq-slice_cmp}
use Rattle.ls_value.specs.declared.row.Value.{Value}
use Rattle.ls_value.specs.Values.{text_eq}
use Rattle.ls_mirror.specs.Keys.{KeyTable}

bytes_text : (a b : List ℕ) → bytes_eq a b ≡ text_eq a b
bytes_text [] [] = refl
bytes_text [] (y ∷ ys) = refl
bytes_text (x ∷ xs) [] = refl
bytes_text (x ∷ xs) (y ∷ ys) = ap (λ v. (x == y) && v) (bytes_text xs ys)

-- a key is found by the bytes of its text
same_key : (k a : List ℕ) → eq_by_cmp (slice_cmp nat_cmp) k a ≡ text_eq a k
same_key k a = (eq_by_cmp_equiv nat_list_cmp_total).symm k a ∙ is_eq-slice_cmp a k ∙ bytes_text a k

pub get_inserted : (table : KeyTable) (a : List ℕ) (row : List Value) (k : List ℕ)
    → finite.get (finite.insert table a row) k ≡ cond (text_eq a k) (Some row) (finite.get table k)
get_inserted table a row k = get-insert nat_list_cmp_total table a row k ∙ ap (λ v. cond v (Some row) (finite.get table k)) (same_key k a)

pub get_removed : (table : KeyTable) (a k : List ℕ) → finite.get (finite.remove table a) k ≡ cond (text_eq a k) None (finite.get table k)
get_removed table a k = get-remove nat_list_cmp_total table a k ∙ ap (λ v. cond v None (finite.get table k)) (same_key k a)
