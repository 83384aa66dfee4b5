-- What is read is a config: few items, with distinct names, each as it has to be.
use Rattle.std.proofs.Common.{◌≡◌, ℕ, ◌+◌, List, [], ◌∷◌, ◌++◌, length, refl, ap, subst, ◌∙◌, arith, Bool, true, false, ◌&&◌, not, cond, Option, Some, None}
use Rattle.std.proofs.Common.{IfSome, Ok, nat_le, nat_lt}
use Rattle.std.specs.Prelude.{codes}
use Rattle.std.specs.List.{list_all}
use Rattle.std.proofs.lemmas.Bool.Decides.{nat_tests}
use Rattle.std.proofs.lemmas.List.{length-append}
use Rattle.std.proofs.lemmas.List.Folds.{list_all-append}
use Rattle.ls_value.specs.Values.{text_eq, are_distinct}
use Rattle.ls_value.proofs.Rows.{and_left, and_right, both}
use Rattle.ls_value.proofs.Distinct.{distinct_push}
use Rattle.ls_words.specs.Words.{divided, is_name}
use Rattle.ls_event.specs.declared.item.ItemDef.{ItemDef}
use Rattle.ls_event.specs.declared.item.Kind.{Kind}
use Rattle.ls_config.specs.declared.reading.Draft.{Draft}
use Rattle.ls_config.specs.declared.items.TheConstants.{MOST_ITEMS}
use Rattle.ls_config.specs.Items.{is_item, item_with, item_said, kind_said, names_of, are_items, may_follow}
use Rattle.ls_config.specs.Configs.{is_skipped, with_set, with_item, with_words, with_line, with_lines}

names_push : (items : List ItemDef) (i : ItemDef) → names_of (items ++ i ∷ []) ≡ names_of items ++ i.name ∷ []
names_push [] i = refl
names_push (j ∷ items) i = ap (λ (ns : List (List ℕ)). j.name ∷ ns) (names_push items i)

-- one more item
items_push : (items : List ItemDef) (i : ItemDef) → are_items items ≡ true → is_item i ≡ true → may_follow items i.name ≡ true
    → are_items (items ++ i ∷ []) ≡ true
items_push items i h is m =
    let few : nat_lt (length items) MOST_ITEMS ≡ true = and_left _ _ m in
    let n = length-append items (i ∷ []) in
    let count : nat_le (length (items ++ i ∷ [])) MOST_ITEMS ≡ true = rw n (grind (arith, nat_tests)) in
    let old : list_all is_item items ≡ true = and_right (nat_le (length items) MOST_ITEMS) _ (and_left _ _ h) in
    let each : list_all is_item (items ++ i ∷ []) ≡ true = list_all-append is_item items (i ∷ [])
    ∙ both (list_all is_item items) (is_item i && true) old (both (is_item i) true is refl) in
    let apart : are_distinct (names_of (items ++ i ∷ [])) ≡ true = rw (names_push items i)
    (distinct_push (names_of items) i.name (and_right _ (are_distinct (names_of items)) h) (and_right (nat_lt (length items) MOST_ITEMS) _ m)) in
    both _ _ (both _ _ count each) apart

-- what a draft holds is a config's items
abbrev Fits : Option Draft → Type 0
Fits o = IfSome o (λ d. are_items d.items ≡ true)

-- an item that is said is one
pub said_item : (name : List ℕ) (fields : List (List ℕ)) (k : Option Kind) → IfSome (item_with name fields k) (λ i. is_item i ≡ true)
said_item name fields None = tt
said_item name fields (Some k) = by_test (is_item (record { name = name; kind = k; fields = fields })) refl
  where
    by_test : (v : Bool) → is_item (record { name = name; kind = k; fields = fields }) ≡ v
        → IfSome {T = ItemDef} (cond v (Some (record { name = name; kind = k; fields = fields })) None) (λ i. is_item i ≡ true)
    by_test true e = e
    by_test false e = tt

fits_item : (d : Draft) (o : Option ItemDef) → are_items d.items ≡ true → IfSome o (λ i. is_item i ≡ true) → Fits (with_item d o)
fits_item d None h is = tt
fits_item d (Some i) h is = by_test (may_follow d.items i.name) refl
  where
    by_test : (v : Bool) → may_follow d.items i.name ≡ v → Fits (cond v (Some (record { set = d.set; begun = true; items = d.items ++ i ∷ [] })) None)
    by_test true e = items_push d.items i h is e
    by_test false e = tt

fits_set : (d : Draft) (word name : List ℕ) → are_items d.items ≡ true → Fits (with_set d word name)
fits_set d word name h = by_test (text_eq word (codes "set") && not d.begun) (is_name name)
  where
    by_test : (v w : Bool) → Fits (cond v (cond w (Some (record { set = Some name; begun = true; items = d.items })) None) None)
    by_test true true = h
    by_test true false = tt
    by_test false w = tt

fits_words : (d : Draft) (words : List (List ℕ)) → are_items d.items ≡ true → Fits (with_words d words)
fits_words d [] h = tt
fits_words d (a ∷ []) h = tt
fits_words d (a ∷ b ∷ []) h = fits_set d a b h
fits_words d (a ∷ b ∷ c ∷ []) h = fits_item d (item_said a b c) h (said_item a (divided 44 c) (kind_said b))
fits_words d (a ∷ b ∷ c ∷ e ∷ words) h = tt

fits_line : (d : Draft) (line : List ℕ) → are_items d.items ≡ true → Fits (with_line d line)
fits_line d line h = by_test (is_skipped line) (fits_words d (divided 32 line) h)
  where
    by_test : (v : Bool) → Fits (with_words d (divided 32 line)) → Fits (cond v (Some d) (with_words d (divided 32 line)))
    by_test true g = h
    by_test false g = g

pub lines_fit : (n : ℕ) (o : Option Draft) (lines : List (List ℕ)) (d : Draft) → Fits o → with_lines n o lines ≡ Ok d → are_items d.items ≡ true
lines_fit n None [] d f e = cc
lines_fit n None (line ∷ lines) d f e = cc
lines_fit n (Some c) [] d f e = let is : c ≡ d = cc in subst (λ (x : Draft). are_items x.items ≡ true) is f
lines_fit n (Some c) (line ∷ lines) d f e = lines_fit (n + 1) (with_line c line) lines d (fits_line c line f) e
