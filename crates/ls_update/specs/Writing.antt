-- What the writers of coded fields append (TLCP 2.1, notification U).
use Rattle.std.specs.Prelude.{ℕ, List, [], ◌∷◌, ◌++◌, Bool, true, false, Option, Some, None}
use Rattle.std.specs.Borrow.{Bor}
use Rattle.std.specs.List.{join_with_byte}
use Rattle.ls_value.specs.Values.{value_eq}
use Rattle.ls_value.specs.declared.row.Value.{Value}

-- the row behind a reference, if there is one
abbrev pub row_behind : Option (Bor (List Value)) → Option (List Value)
row_behind None = None
row_behind (Some row) = Some row.now

-- whether the first of these values is this one
abbrev pub begins_with : List Value → Value → Bool
begins_with [] v = false
begins_with (p ∷ values) v = value_eq p v

-- the text of tokens, each with the divider before it
abbrev pub behind_dividers : List (List ℕ) → List ℕ
behind_dividers [] = []
behind_dividers (t ∷ tokens) = 124 ∷ t ++ behind_dividers tokens

-- the text of more tokens: the first token of all has no divider before it
abbrev pub more_tokens : Bool → List (List ℕ) → List ℕ
more_tokens true tokens = join_with_byte 124 tokens
more_tokens false tokens = behind_dividers tokens
