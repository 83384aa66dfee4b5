-- Items as they are declared: their names, kinds and fields (this project's profile).
use Rattle.std.specs.Prelude.{ℕ, List, length, map, Bool, true, ◌&&◌, Option, None, Some, is_some, is_none}
use Rattle.std.specs.Prelude.{nat_le, nat_lt, codes, if◌then◌else◌}
use Rattle.std.specs.List.{list_all}
use Rattle.ls_value.specs.Values.{text_eq, place_of, are_distinct}
use Rattle.ls_words.specs.Words.{divided, is_name}
use Rattle.ls_event.specs.declared.limits.TheConstants.{MOST_FIELDS}
use Rattle.ls_event.specs.declared.item.Kind.{Kind}
use Rattle.ls_event.specs.declared.item.Kind.TheVariants as kind
use Rattle.ls_event.specs.declared.item.ItemDef.{ItemDef}
use Rattle.ls_config.specs.declared.items.TheConstants.{MOST_ITEMS}

-- distinct names, at least one and at most `MOST_FIELDS`
abbrev pub are_fields : List (List ℕ) → Bool
are_fields names = nat_le 1 (length names) && nat_le (length names) MOST_FIELDS && are_distinct names
    && list_all is_name names

-- these texts as names, where each is one
abbrev pub names_said : List (List ℕ) → Option (List (List ℕ))
names_said texts = if list_all is_name texts then Some texts else None

-- the fields that a text names, divided by commas
abbrev pub fields_said : List ℕ → Option (List (List ℕ))
fields_said text = if are_fields (divided 44 text) then Some (divided 44 text) else None

-- the kind that a word says
abbrev pub kind_said : List ℕ → Option Kind
kind_said word =
    if text_eq word (codes "MERGE") then Some kind.Merge
    else if text_eq word (codes "DISTINCT") then Some kind.Distinct
    else if text_eq word (codes "COMMAND") then Some kind.Command
    else None

-- the fields that a kind needs: in COMMAND `key` and `command`
abbrev pub has_needed : Kind → List (List ℕ) → Bool
has_needed kind.Merge fields = true
has_needed kind.Distinct fields = true
has_needed kind.Command fields = is_some (place_of fields (codes "key")) && is_some (place_of fields (codes "command"))

-- whether an item has a name, distinct field names, and those that its kind needs
abbrev pub is_item : ItemDef → Bool
is_item i = is_name i.name && are_fields i.fields && has_needed i.kind i.fields

-- the item of this name, these fields and this kind, if it is one
abbrev pub item_with : List ℕ → List (List ℕ) → Option Kind → Option ItemDef
item_with name fields None = None
item_with name fields (Some k) =
    if is_item (record { name = name; kind = k; fields = fields })
    then Some (record { name = name; kind = k; fields = fields }) else None

-- the item that three words say; fields are divided by commas
abbrev pub item_said : List ℕ → List ℕ → List ℕ → Option ItemDef
item_said name word fields = item_with name (divided 44 fields) (kind_said word)

-- the names of items
abbrev pub names_of : List ItemDef → List (List ℕ)
names_of items = map (λ i. i.name) items

-- at most `MOST_ITEMS` items, with distinct names
abbrev pub are_items : List ItemDef → Bool
are_items items = nat_le (length items) MOST_ITEMS && list_all is_item items && are_distinct (names_of items)

-- whether an item may stand behind others: they are fewer than `MOST_ITEMS`, and none has its name
abbrev pub may_follow : List ItemDef → List ℕ → Bool
may_follow items name = nat_lt (length items) MOST_ITEMS && is_none (place_of (names_of items) name)
