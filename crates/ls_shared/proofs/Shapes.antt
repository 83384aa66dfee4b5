-- An item of a config has the shape of an item.
use Rattle.std.proofs.Common.{◌≡◌, ℕ, zero, suc, ◌<◌, ◌≤◌, List, [], ◌∷◌, length, sym, arith, subst, true, Some, slice_get, get_or, ap, nat_le, ◌&&◌}
use Rattle.std.specs.List.{list_all}
use Rattle.std.proofs.lemmas.Bool.{leb-true}
use Rattle.ls_value.specs.Values.{are_distinct}
use Rattle.ls_value.specs.Each.{Each}
use Rattle.ls_value.proofs.Rows.{and_left, and_right}
use Rattle.ls_told.specs.Seen.{IsDeclared}
use Rattle.ls_words.specs.Words.{is_name}
use Rattle.ls_event.specs.declared.item.ItemDef.{ItemDef}
use Rattle.ls_event.specs.declared.limits.TheConstants.{MOST_FIELDS}
use Rattle.ls_event.specs.Shapes.{shape_of, IsShape}
use Rattle.ls_config.specs.Items.{is_item, are_fields, are_items, has_needed, names_of}
use Rattle.ls_config.specs.declared.items.TheConstants.{MOST_ITEMS}
use Rattle.ls_config.proofs.Shapes.{shape_of_fields}

pub item_shape : (d : ItemDef) → is_item d ≡ true → IsShape (shape_of d)
item_shape d is =
    let fields : are_fields d.fields ≡ true =
    and_right (is_name d.name) (are_fields d.fields) (and_left (is_name d.name && are_fields d.fields) (has_needed d.kind d.fields) is) in
    let keys : has_needed d.kind d.fields ≡ true = and_right (is_name d.name && are_fields d.fields) (has_needed d.kind d.fields) is in
    let some_most : (nat_le 1 (length d.fields) && nat_le (length d.fields) MOST_FIELDS) ≡ true =
    and_left (nat_le 1 (length d.fields) && nat_le (length d.fields) MOST_FIELDS) (are_distinct d.fields)
    (and_left (nat_le 1 (length d.fields) && nat_le (length d.fields) MOST_FIELDS && are_distinct d.fields) (list_all is_name d.fields) fields) in
    let some : 1 ≤ length d.fields = leb-true 1 (length d.fields) (and_left _ (nat_le (length d.fields) MOST_FIELDS) some_most) in
    let most : length d.fields ≤ MOST_FIELDS = leb-true (length d.fields) MOST_FIELDS (and_right (nat_le 1 (length d.fields)) _ some_most) in
    shape_of_fields d.name d.kind d.fields some most keys

each_item : (ds : List ItemDef) (k : ℕ) (d : ItemDef) → list_all is_item ds ≡ true → slice_get ds k ≡ Some d → is_item d ≡ true
each_item [] k d all at = absurd cc
each_item (x ∷ ds) zero d all at =
    let same : x ≡ d = cc at in
    subst (λ (y : ItemDef). is_item y ≡ true) same (and_left (is_item x) (list_all is_item ds) all)
each_item (x ∷ ds) (suc k) d all at = each_item ds k d (and_right (is_item x) (list_all is_item ds) all) at

-- what stands at a place
pub stands_at : (ds : List ItemDef) (k : ℕ) (d : ItemDef) → k < length ds → d ≡ get_or ds k d → slice_get ds k ≡ Some d
stands_at [] k d within is = absurd (omega (arith, within))
stands_at (x ∷ ds) zero d within is = ap Some (sym is)
stands_at (x ∷ ds) (suc k) d within is = stands_at ds k d (omega (arith, within)) is

-- each item of a config
pub shape_at : (ds : List ItemDef) (k : ℕ) (d : ItemDef) → are_items ds ≡ true → slice_get ds k ≡ Some d → IsShape (shape_of d)
shape_at ds k d are at =
    item_shape d
    (each_item ds k d
    (and_right (nat_le (length ds) MOST_ITEMS) (list_all is_item ds)
    (and_left (nat_le (length ds) MOST_ITEMS && list_all is_item ds) (are_distinct (names_of ds)) are))
    at)

-- a config has few items
pub few_items : (ds : List ItemDef) → are_items ds ≡ true → length ds ≤ MOST_ITEMS
few_items ds are =
    leb-true (length ds) MOST_ITEMS
    (and_left (nat_le (length ds) MOST_ITEMS) (list_all is_item ds)
    (and_left (nat_le (length ds) MOST_ITEMS && list_all is_item ds) (are_distinct (names_of ds)) are))

-- each item of a config is declared as it may be
declared_each : (ds : List ItemDef) → list_all is_item ds ≡ true → Each IsDeclared ds
declared_each [] all = tt
declared_each (d ∷ ds) all =
    let is : is_item d ≡ true = and_left (is_item d) (list_all is_item ds) all in
    let fields : are_fields d.fields ≡ true =
    and_right (is_name d.name) (are_fields d.fields) (and_left (is_name d.name && are_fields d.fields) (has_needed d.kind d.fields) is) in (
      record {
        shape = item_shape d is;
        distinct =
            and_right (nat_le 1 (length d.fields) && nat_le (length d.fields) MOST_FIELDS) (are_distinct d.fields)
            (and_left (nat_le 1 (length d.fields) && nat_le (length d.fields) MOST_FIELDS && are_distinct d.fields) (list_all is_name d.fields) fields);
      },
      declared_each ds (and_right (is_item d) (list_all is_item ds) all),
    )

pub declared_all : (ds : List ItemDef) → are_items ds ≡ true → Each IsDeclared ds
declared_all ds are =
    declared_each ds
    (and_right (nat_le (length ds) MOST_ITEMS) (list_all is_item ds)
    (and_left (nat_le (length ds) MOST_ITEMS && list_all is_item ds) (are_distinct (names_of ds)) are))
