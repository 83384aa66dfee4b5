-- What an item's definition settles (General Concepts, items and modes).
use Rattle.std.specs.Prelude.{◌≡◌, ℕ, ◌<◌, ◌≤◌, length, unwrap_or, codes}
use Rattle.ls_value.specs.Values.{place_of}
use Rattle.ls_event.specs.declared.item.Kind.{Kind}
use Rattle.ls_event.specs.declared.item.Kind.TheVariants as kind
use Rattle.ls_event.specs.declared.item.ItemDef.{ItemDef}
use Rattle.ls_event.specs.declared.limits.TheConstants.{MOST_FIELDS}

-- an item's kind, its number of fields, and in kind COMMAND the places of its key and its command
pub record Shape : Type 0 where
  pub kind : Kind
  pub fields : ℕ
  pub key : ℕ
  pub command : ℕ

-- the key and the command of a COMMAND item are the fields of these names
abbrev pub shape_of : ItemDef → Shape
shape_of i =
    record {
      kind = i.kind;
      fields = length i.fields;
      key = unwrap_or (place_of i.fields (codes "key")) 0;
      command = unwrap_or (place_of i.fields (codes "command")) 0;
    }

-- what an item of distinct fields, at least one, has, among them in kind COMMAND a key and a command
pub record IsShape (p : Shape) : Type 0 where
  pub some : 1 ≤ p.fields
  pub most : p.fields ≤ MOST_FIELDS
  pub key : p.key < p.fields
  pub command : p.command < p.fields
  pub apart : p.kind ≡ kind.Command → p.key ≡ p.command → ⊥
