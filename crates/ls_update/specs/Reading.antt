-- The coded fields of a U line, as they are read (TLCP 2.1, notification U).
use Rattle.std.specs.Prelude.{◌≡◌, ◌≢◌, ◌⊎◌, ℕ, ◌+◌, ◌-◌, ◌^◌, ◌<◌, ◌≤◌, Bool, true, false, not, ◌||◌, ◌==◌, List, []}
use Rattle.std.specs.Prelude.{◌∷◌, length, take, drop, get_or, Option, Some, None, All, IsUtf8}
use Rattle.std.specs.Fmt.{decimal}
use Rattle.percent_encoding.specs.Percent.{percent_decode}
use Rattle.ls_words.specs.Words.{divided}
use Rattle.ls_value.specs.Values.{nulls}
use Rattle.ls_value.specs.declared.row.Value.{Value}
use Rattle.ls_value.specs.declared.row.Value.TheVariants as value
use Rattle.ls_update.specs.declared.reading.ReadRefused.{ReadRefused}
use Rattle.ls_update.specs.declared.reading.ReadRefused.TheVariants as refused

-- the tokens of a text
abbrev pub tokens_of : List ℕ → List (List ℕ)
tokens_of text = divided 124 text

-- the row that coded fields are read after: no row before counts as all null
abbrev pub row_before : ℕ → Option (List Value) → List Value
row_before n None = nulls n
row_before n (Some row) = row

-- whether a token says a text: it isn't empty, no `#` or `$` alone, and doesn't begin with `^`
abbrev pub says_text : List ℕ → Bool
says_text [] = false
says_text (b ∷ []) = not (b == 35 || b == 36 || b == 94)
says_text (b ∷ c ∷ bs) = not (b == 94)

-- whether a token begins as a run of unchanged fields
abbrev pub begins_run : List ℕ → Bool
begins_run [] = false
begins_run (b ∷ bs) = b == 94

-- the values that a token says of the next fields, by their values before
pub data Says (before : List Value) (token : List ℕ) (now : List Value) : Type 0 where
  -- the next field is unchanged
  unchanged : length before ≡ 1 → token ≡ [] → now ≡ before → Says before token now
  -- so many fields are unchanged
  run : 1 ≤ length before → token ≡ 94 ∷ decimal (length before) → now ≡ before → Says before token now
  -- null
  null : length before ≡ 1 → token ≡ 35 ∷ [] → now ≡ value.Null ∷ [] → Says before token now
  -- the empty text
  empty : length before ≡ 1 → token ≡ 36 ∷ [] → now ≡ value.Text [] ∷ [] → Says before token now
  -- a text, percent-decoded: a `%` without two hexadecimal digits behind it stands for itself
  text : length before ≡ 1 → says_text token ≡ true → IsUtf8 (percent_decode token)
      → now ≡ value.Text (percent_decode token) ∷ [] → Says before token now

-- a row, as tokens say it after a row before: the first token speaks of the first k fields, and the others of those
-- behind
abbrev pub Reads : List Value → List (List ℕ) → List Value → Type 0
Reads prev [] row = (prev ≡ []) × (row ≡ [])
Reads prev (token ∷ tokens) row = (k : ℕ) × (k ≤ length prev) × Says (take k prev) token (take k row)
    × Reads (drop k prev) tokens (drop k row)

-- a token that is read: its bytes, its number from 1, and how many fields are left
pub record Token : Type 0 where
  pub bytes : List ℕ
  pub number : ℕ
  pub left : ℕ

-- what is wrong with a token
abbrev pub IsFault : Token → ReadRefused → Type 0
IsFault token (refused.TooFew got) = ⊥
IsFault token (refused.TooMany stands) = (stands ≡ token.number) × (token.left ≡ 0)
IsFault token (refused.BadRun stands) = (stands ≡ token.number) × (1 ≤ token.left) × (begins_run token.bytes ≡ true)
    × ((k : ℕ) → 1 ≤ k → k ≤ token.left → token.bytes ≢ 94 ∷ decimal k)
IsFault token (refused.BadText stands) = (stands ≡ token.number) × (1 ≤ token.left) × (says_text token.bytes ≡ true)
    × (IsUtf8 (percent_decode token.bytes) → ⊥)
IsFault token refused.NoMemory = ⊥

-- a token that is at fault behind tokens that say the first fields, so many of them
pub record FaultAt (prev : List Value) (tokens : List (List ℕ)) (fault : ReadRefused) : Type 0 where
  pub behind : ℕ
  pub fields : ℕ
  pub row : List Value
  pub stands : behind < length tokens
  pub within : fields ≤ length prev
  pub before : Reads (take fields prev) (take behind tokens) row
  pub is : IsFault (record { bytes = get_or tokens behind []; number = behind + 1; left = length prev - fields }) fault

-- the tokens say the first fields, so many of them, and fields are left
pub record EndsEarly (prev : List Value) (tokens : List (List ℕ)) (got : ℕ) : Type 0 where
  pub row : List Value
  pub few : got < length prev
  pub before : Reads (take got prev) tokens row

-- the first fault from the left
abbrev pub FirstFault : List Value → List (List ℕ) → ReadRefused → Type 0
FirstFault prev tokens (refused.TooFew got) = EndsEarly prev tokens got
FirstFault prev tokens (refused.TooMany stands) = FaultAt prev tokens (refused.TooMany stands)
FirstFault prev tokens (refused.BadRun stands) = FaultAt prev tokens (refused.BadRun stands)
FirstFault prev tokens (refused.BadText stands) = FaultAt prev tokens (refused.BadText stands)
FirstFault prev tokens refused.NoMemory = ⊥

-- why a reading was refused: the first fault, or want of memory
abbrev pub Refuses : List Value → List (List ℕ) → ReadRefused → Type 0
Refuses prev tokens fault = (fault ≡ refused.NoMemory) ⊎ FirstFault prev tokens fault

-- a value whose text, if it has one, is UTF-8
abbrev pub IsTextual : Value → Type 0
IsTextual value.Null = Unit {0}
IsTextual (value.Text t) = IsUtf8 t

-- a row before, if there is one, of so many fields
abbrev pub HasFields : ℕ → Option (List Value) → Type 0
HasFields n None = Unit {0}
HasFields n (Some row) = length row ≡ n

-- a row that can be written after another, or without one
pub record Writable (prev : Option (List Value)) (row : List Value) : Type 0 where
  pub some : 1 ≤ length row
  pub most : length row < 2 ^ 64
  pub before : HasFields (length row) prev
  pub texts : All IsTextual row
