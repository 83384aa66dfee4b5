-- How the reader goes on: token by token, and value by value.
use Rattle.std.specs.Prelude.{◌≡◌, ◌⊎◌, ℕ, ◌-◌, ◌≤◌, List, ◌++◌, length, take, drop, Option}
use Rattle.std.specs.Borrow.{Bor}
use Rattle.ls_value.specs.declared.row.Value.{Value}
use Rattle.ls_update.specs.declared.reading.ReadRefused.{ReadRefused}
use Rattle.ls_update.specs.declared.reading.ReadRefused.TheVariants as refused
use Rattle.ls_words.specs.Words.{pieces_behind}
use Rattle.ls_update.specs.Reading.{Says, Token, IsFault}

-- the first fields of a row, grown by what one token says
pub record Grows (prev old : List Value) (token : List ℕ) (new : List Value) : Type 0 where
  pub within : length new ≤ length prev
  pub kept : new ≡ old ++ drop (length old) new
  pub says : Says (take (length new - length old) (drop (length old) prev)) token (drop (length old) new)

-- why one token is refused: its fault, or want of memory
abbrev pub RefusesToken : Token → ReadRefused → Type 0
RefusesToken token fault = (fault ≡ refused.NoMemory) ⊎ IsFault token fault

-- the tokens behind a first one, where a divider follows it
abbrev pub tokens_behind : Option (Bor (List ℕ)) → List (List ℕ)
tokens_behind rest = pieces_behind 124 rest
