-- The merged state as the history grows.
use Rattle.std.proofs.Common.{◌≡◌, ℕ, ◌+◌, ◌≤◌, List, [], ◌∷◌, ◌++◌, length, take, drop, refl, sym, ◌∙◌, ap}
use Rattle.std.proofs.lemmas.List.{take-append-le, take-append-drop, take-take, length-replicate}
use Rattle.ls_value.specs.declared.row.Value.TheVariants as value
use Rattle.ls_value.specs.declared.row.Value.{Value}
use Rattle.ls_value.specs.Values.{nulls}
use Rattle.ls_event.specs.declared.event.Event.{Event}
use Rattle.ls_event.specs.declared.event.Event.TheVariants.{Update, Clear}
use Rattle.ls_event.specs.declared.event.Entry.{Entry}
use Rattle.ls_value.proofs.Rows.{applied_length}
use Rattle.ls_event.specs.History.{row_after, row_after_all, merged}

pub row_after_all-append : (row : List Value) (xs ys : List Entry) → row_after_all row (xs ++ ys) ≡ row_after_all (row_after_all row xs) ys
row_after_all-append row [] ys = refl
row_after_all-append row (x ∷ xs) ys = row_after_all-append (row_after row x.event) xs ys

-- one entry more
pub merged-next : (fields : ℕ) (h : List Entry) (i : ℕ) (e : Entry) → take (i + 1) h ≡ take i h ++ e ∷ []
    → merged fields h (i + 1) ≡ row_after (merged fields h i) e.event
merged-next fields h i e next = rw next (row_after_all-append (nulls fields) (take i h) (e ∷ []))

-- later entries leave it
pub merged-append : (fields : ℕ) (h more : List Entry) (i : ℕ) → i ≤ length h → merged fields (h ++ more) i ≡ merged fields h i
merged-append fields h more i within = ap (row_after_all (nulls fields)) (take-append-le i h more within)

-- an event keeps the number of fields
pub row_after_length : (row : List Value) (event : Event) → length (row_after row event) ≡ length row
row_after_length row (Update cells) = applied_length row cells
row_after_length row Clear = length-replicate (length row) value.Null

pub row_after_all_length : (row : List Value) (es : List Entry) → length (row_after_all row es) ≡ length row
row_after_all_length row [] = refl
row_after_all_length row (e ∷ es) = row_after_all_length (row_after row e.event) es ∙ row_after_length row e.event

pub merged_length : (fields : ℕ) (h : List Entry) (i : ℕ) → length (merged fields h i) ≡ fields
merged_length fields h i = row_after_all_length (nulls fields) (take i h) ∙ length-replicate fields value.Null

-- a later state is made of an earlier one
pub merged-between : (fields : ℕ) (h : List Entry) (p l : ℕ) → p ≤ l → merged fields h l ≡ row_after_all (merged fields h p) (drop p (take l h))
merged-between fields h p l low =
    ap (row_after_all (nulls fields)) (sym (take-append-drop p (take l h)) ∙ ap (λ xs. xs ++ drop p (take l h)) (take-take p l h low))
    ∙ row_after_all-append (nulls fields) (take p h) (drop p (take l h))
