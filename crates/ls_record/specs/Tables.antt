-- The key table of a client of mode COMMAND (TLCP 2.1, SUBCMD; General Concepts, mode COMMAND).
use Rattle.std.specs.Prelude.{◌==◌, ℕ, ◌+◌, List, [], ◌∷◌, set, Option, None, Some, codes, if◌then◌else◌, option_map}
use Rattle.ls_value.specs.declared.row.Value.{Value}
use Rattle.ls_value.specs.Values.{nulls, projected, value_at, text_eq, row_eq}
use Rattle.ls_event.specs.Shapes.{Shape}
use Rattle.ls_mirror.specs.declared.command.KeyPlaces.{KeyPlaces}
use Rattle.ls_mirror.specs.Client.{What, Row, Lost, Cleared, End}
use Rattle.ls_value.specs.declared.row.Value.TheVariants as value

-- the first place of a field in a schema, and the number of its fields where it isn't there
abbrev pub place_of_field : ℕ → List ℕ → ℕ
place_of_field field [] = 0
place_of_field field (p ∷ places) = if p == field then 0 else place_of_field field places + 1

-- the places of an item's key and command in a schema
abbrev pub keys_shown_at : Shape → List ℕ → KeyPlaces
keys_shown_at p places = record { key = place_of_field p.key places; command = place_of_field p.command places }

-- the text of a value, which is empty where it is null
abbrev pub text_or_empty : Value → List ℕ
text_or_empty value.Null = []
text_or_empty (value.Text t) = t

-- what a row makes of its key's row: none where it deletes it, and else the row without its command
abbrev pub kept_of : KeyPlaces → List Value → Option (List Value)
kept_of at r =
    if text_eq (text_or_empty (value_at r at.command)) (codes "DELETE") then None
    else Some (set r at.command value.Null)

-- the client's row of a key after one more line, by the row before it
abbrev pub table_or : KeyPlaces → List ℕ → What → Option (List Value) → Option (List Value)
table_or at k (Row r) before = if text_eq (text_or_empty (value_at r at.key)) k then kept_of at r else before
table_or at k (Lost n) before = before
table_or at k Cleared before = None
table_or at k End before = before

-- the client's row of a key, after all that came
abbrev pub table_at : KeyPlaces → List ℕ → List What → Option (List Value)
table_at at k [] = None
table_at at k (what ∷ ws) = table_or at k what (table_at at k ws)

-- a row that tells a command
abbrev pub with_word : KeyPlaces → List ℕ → List Value → List Value
with_word at word r = set r at.command (value.Text word)

-- the row that deletes a key: all other fields are null
abbrev pub delete_row : KeyPlaces → ℕ → List ℕ → List Value
delete_row at fields k = with_word at (codes "DELETE") (set (nulls fields) at.key (value.Text k))

-- the line of a key's turn, by the client's row and the item's
abbrev pub what_of_key : KeyPlaces → ℕ → List ℕ → Option (List Value) → Option (List Value) → Option What
what_of_key at fields k None None = None
what_of_key at fields k None (Some r) = Some (Row (with_word at (codes "ADD") r))
what_of_key at fields k (Some old) None = Some (Row (delete_row at fields k))
what_of_key at fields k (Some old) (Some r) =
    if row_eq old r then None else Some (Row (with_word at (codes "UPDATE") r))

-- a row at the places of a schema, where there is one
abbrev pub projected_row : List ℕ → Option (List Value) → Option (List Value)
projected_row places row = option_map (λ r. projected r places) row
