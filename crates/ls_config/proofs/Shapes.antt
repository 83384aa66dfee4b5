-- The shape of an item whose fields are sound.
use Rattle.std.proofs.Common.{◌≡◌, ℕ, ◌<◌, ◌≤◌, List, length, refl, sym, ◌∙◌, arith, subst, true, false, Option, Some, None, IfSome, slice_get, codes}
use Rattle.std.specs.Prelude.{unwrap_or, is_some}
use Rattle.ls_value.specs.Values.{text_eq, place_of}
use Rattle.ls_value.proofs.Rows.{and_left, and_right, text_eq_same, place_of_within, place_of_found}
use Rattle.ls_event.specs.declared.item.Kind.{Kind}
use Rattle.ls_event.specs.declared.item.Kind.TheVariants as kind
use Rattle.ls_event.specs.declared.limits.TheConstants.{MOST_FIELDS}
use Rattle.ls_event.specs.Shapes.{shape_of, IsShape}
use Rattle.ls_config.specs.Items.{has_needed}

place_within : (fields : List (List ℕ)) (name : List ℕ) → 1 ≤ length fields → unwrap_or (place_of fields name) 0 < length fields
place_within fields name some = by_place (place_of fields name) (place_of_within fields name)
  where
    by_place : (o : Option ℕ) → IfSome o (λ i. i < length fields) → unwrap_or o 0 < length fields
    by_place None h = omega (arith, some)
    by_place (Some i) h = h

-- two names that are there have two places
places_apart : (fields : List (List ℕ)) (name other : List ℕ) → text_eq name other ≡ false → is_some (place_of fields name) ≡ true
    → is_some (place_of fields other) ≡ true
    → unwrap_or (place_of fields name) 0 ≡ unwrap_or (place_of fields other) 0 → ⊥
places_apart fields name other differ there here = by_places (place_of fields name) (place_of fields other) (place_of_found fields name)
    (place_of_found fields other) there here
  where
    by_places : (o p : Option ℕ) → IfSome o (λ i. slice_get fields i ≡ Some name) → IfSome p (λ i. slice_get fields i ≡ Some other) → is_some o ≡ true
        → is_some p ≡ true → unwrap_or o 0 ≡ unwrap_or p 0 → ⊥
    by_places None p f g there here same = cc
    by_places (Some i) None f g there here same = cc
    by_places (Some i) (Some j) f g there here same =
        let e : slice_get fields i ≡ Some other = subst (λ (n : ℕ). slice_get fields n ≡ Some other) (sym same) g in
        let s : Some name ≡ Some other = sym f ∙ e in
        let is : name ≡ other = cc in
        let t : text_eq name other ≡ true = subst (λ (x : List ℕ). text_eq name x ≡ true) is (text_eq_same name) in
        cc

keys_apart : (k : Kind) (fields : List (List ℕ)) → has_needed k fields ≡ true → k ≡ kind.Command
    → unwrap_or (place_of fields (codes "key")) 0 ≡ unwrap_or (place_of fields (codes "command")) 0 → ⊥
keys_apart kind.Merge fields h is same = cc
keys_apart kind.Distinct fields h is same = cc
keys_apart kind.Command fields h is same =
    places_apart fields (codes "key") (codes "command") refl
    (and_left (is_some (place_of fields (codes "key"))) (is_some (place_of fields (codes "command"))) h)
    (and_right (is_some (place_of fields (codes "key"))) (is_some (place_of fields (codes "command"))) h) same

-- an item of few fields, with those that its kind needs among them, has the shape of an item
pub shape_of_fields : (name : List ℕ) (k : Kind) (fields : List (List ℕ)) → 1 ≤ length fields → length fields ≤ MOST_FIELDS
    → has_needed k fields ≡ true → IsShape (shape_of (record { name = name; kind = k; fields = fields }))
shape_of_fields name k fields some most needed =
    record {
      some = some;
      most = most;
      key = place_within fields (codes "key") some;
      command = place_within fields (codes "command") some;
      apart = keys_apart k fields needed;
    }
