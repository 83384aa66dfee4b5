-- Keys and commands in rows of a COMMAND item, and what they do to its rows by key (General Concepts, COMMAND).
use Rattle.std.specs.Prelude.{ℕ, List, [], ◌∷◌, set, codes, Bool, true, ◌&&◌, Option, None, Some, is_some}
use Rattle.std.specs.Prelude.{option_and_then, if◌then◌else◌}
use Rattle.std.specs.FinMap as finite
use Rattle.ls_value.specs.Values.{text_eq, value_at}
use Rattle.ls_value.specs.declared.row.Value.{Value}
use Rattle.ls_value.specs.declared.row.Value.TheVariants as value
use Rattle.ls_mirror.specs.declared.command.Change.{Change}
use Rattle.ls_mirror.specs.declared.command.Change.TheVariants as change
use Rattle.ls_mirror.specs.declared.command.KeyPlaces.{KeyPlaces}
use Rattle.ls_mirror.specs.Client.{What, Row, Lost, Cleared, End}
use Rattle.ls_mirror.specs.Keys.{KeyTable}

-- the text of a value, if it has one
abbrev pub text_of_value : Value → Option (List ℕ)
text_of_value value.Null = None
text_of_value (value.Text t) = Some t

-- the text at a place of a row
abbrev pub text_at : List Value → ℕ → Option (List ℕ)
text_at row place = text_of_value (value_at row place)

-- what a command word does to the row of its key
abbrev pub change_of : List ℕ → Option Change
change_of word =
    if text_eq word (codes "ADD") then Some change.Set
    else if text_eq word (codes "UPDATE") then Some change.Set
    else if text_eq word (codes "DELETE") then Some change.Remove
    else None

-- what the command word at a place of a row does
abbrev pub change_at : List Value → ℕ → Option Change
change_at row place = option_and_then change_of (text_at row place)

-- a row of a COMMAND item has a key and a command word
abbrev pub has_command : Option KeyPlaces → List Value → Bool
has_command None row = true
has_command (Some places) row = is_some (text_at row places.key) && is_some (change_at row places.command)

-- the row that is kept of a key: its command field is null
abbrev pub kept_row : List Value → ℕ → List Value
kept_row row command = set row command value.Null

-- the key table after a change of a key's row
abbrev pub keys_changed : Option (List ℕ) → Option Change → List Value → KeyTable → KeyTable
keys_changed (Some key) (Some change.Set) row keys = finite.insert keys key row
keys_changed (Some key) (Some change.Remove) row keys = finite.remove keys key
keys_changed (Some key) None row keys = keys
keys_changed None (Some change.Set) row keys = keys
keys_changed None (Some change.Remove) row keys = keys
keys_changed None None row keys = keys

-- the key table after what came
abbrev pub keys_after : What → Option KeyPlaces → KeyTable → KeyTable
keys_after (Row row) None keys = keys
keys_after (Row row) (Some places) keys = keys_changed (text_at row places.key) (change_at row places.command)
    (kept_row row places.command) keys
keys_after (Lost k) places keys = keys
keys_after Cleared places keys = finite.empty
keys_after End places keys = keys

-- the rows by key of what came: ADD and UPDATE set the key's row, DELETE removes it, and an emptied table has none
abbrev pub key_table : Option KeyPlaces → List What → KeyTable
key_table places [] = finite.empty
key_table places (w ∷ whats) = keys_after w places (key_table places whats)
