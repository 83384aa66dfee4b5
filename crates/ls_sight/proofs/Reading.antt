-- What is read at a place of a list and set there, and what the first watch of an item has.
use Rattle.std.proofs.Common.{◌≡◌, ℕ, zero, suc, None, Some, List, [], ◌∷◌, refl, sym, ◌∙◌, ap, slice_get, slice_set, get_or}
use Rattle.ls_event.specs.declared.item.ItemDef.{ItemDef}
use Rattle.ls_record.specs.Records.{change, shape_in}
use Rattle.ls_told.specs.Seen.{Watched, seen_of, showing}
use Rattle.ls_told.proofs.Watching.{seen_first}
use Rattle.ls_event.specs.Shapes.{shape_of}
use Rattle.ls_sight.specs.Sights.{NoneBefore}

-- what stands there is set again
pub set_same : {A : Type 0} (xs : List A) (n : ℕ) (a : A) → slice_get xs n ≡ Some a → slice_set xs n a ≡ xs
set_same [] n a is = refl
set_same (y ∷ xs) zero a is = let same : y ≡ a = cc in ap (λ z. z ∷ xs) (sym same)
set_same (y ∷ xs) (suc n) a is = ap (λ l. y ∷ l) (set_same xs n a is)

-- an element is changed as it is set
pub set_change : {A : Type 0} (f : A → A) (k : ℕ) (xs : List A) (x : A) → slice_get xs k ≡ Some x → slice_set xs k (f x) ≡ change k f xs
set_change f k [] x is = absurd (let y : None ≡ Some x = is in cc)
set_change f zero (y ∷ xs) x is = let same : y ≡ x = cc in ap (λ z. f z ∷ xs) (sym same)
set_change f (suc k) (y ∷ xs) x is = ap (λ l. y ∷ l) (set_change f k xs x is)

-- what is read at a place stands there
pub read_is : {A : Type 0} (xs : List A) (i : ℕ) (x t : A) → x ≡ get_or xs i x → slice_get xs i ≡ Some t → x ≡ t
read_is [] i x t is at = absurd (let y : None ≡ Some t = at in cc)
read_is (y ∷ xs) zero x t is at = let same : y ≡ t = cc in is ∙ same
read_is (y ∷ xs) (suc i) x t is at = read_is xs i x t is at

-- what was seen of an item is what its first watch has
pub seen_there : (ws : List Watched) (k : ℕ) (w : Watched) (n : ℕ) → slice_get ws k ≡ Some w → w.item ≡ n → NoneBefore ws k n
    → seen_of ws n ≡ w.list
seen_there ws k w n there item none =
    let same : change k (showing w.list) ws ≡ ws = sym (set_change (showing w.list) k ws w there) ∙ set_same ws k w there in
    ap (λ (x : List Watched). seen_of x n) (sym same) ∙ seen_first ws k w w.list n there item none

-- a declared item has its shape
pub shape_found : (config : List ItemDef) (n : ℕ) (d : ItemDef) → slice_get config n ≡ Some d → shape_in config n ≡ shape_of d
shape_found [] n d is = absurd (let x : None ≡ Some d = is in cc)
shape_found (e ∷ config) zero d is = let same : e ≡ d = cc in ap shape_of same
shape_found (e ∷ config) (suc n) d is = shape_found config n d is
