-- The text of an event: a Clear, or the new values of some fields (this project's profile).
use Rattle.std.specs.Prelude.{◌≡◌, ◌⊎◌, ◌==◌, ℕ, zero, suc, ◌+◌, List, [], ◌∷◌, ◌++◌, length, Bool, true, false, ◌||◌}
use Rattle.std.specs.Prelude.{set, Option, None, Some, is_none, unwrap_or, option_and_then, Result, Ok, Err, codes}
use Rattle.std.specs.Prelude.{if◌then◌else◌}
use Rattle.std.specs.Option.{option_or}
use Rattle.std.specs.Str.{is_utf8}
use Rattle.percent_encoding.specs.Percent.{percent_decode}
use Rattle.ls_value.specs.Values.{text_eq, cell_at, place_of}
use Rattle.ls_value.specs.declared.row.Cell.{Cell}
use Rattle.ls_value.specs.declared.row.Cell.TheVariants as cell
use Rattle.ls_words.specs.Words.{Halves, divided, split_once}
use Rattle.ls_event.specs.Cuts.{says}
use Rattle.ls_event.specs.declared.event.Event.{Event}
use Rattle.ls_event.specs.declared.event.Event.TheVariants.{Update, Clear}
use Rattle.ls_event.specs.declared.event_text.EventRefused.{EventRefused}
use Rattle.ls_event.specs.declared.event_text.EventRefused.TheVariants as refused

-- the pairs of a text are divided by `&`
abbrev pub pairs_of : List ℕ → List (List ℕ)
pairs_of text = divided 38 text

-- a pair's name and its value are divided by the first `=`
abbrev pub halves_of : List ℕ → Option Halves
halves_of pair = split_once 61 pair

-- what a value says: `#` is null, nothing or `$` is the empty text, and another is percent-decoded, where a `%` without
-- two hexadecimal digits behind it stands for itself, and so does `+`
abbrev pub cell_said : List ℕ → Cell
cell_said [] = cell.Text []
cell_said (b ∷ []) = if b == 35 then cell.Null else if b == 36 then cell.Text []
    else cell.Text (percent_decode (b ∷ []))
cell_said (b ∷ c ∷ bs) = cell.Text (percent_decode (b ∷ c ∷ bs))

-- whether a cell's text, if it has one, is UTF-8
abbrev pub is_textual : Cell → Bool
is_textual cell.Same = true
is_textual cell.Null = true
is_textual (cell.Text t) = is_utf8 t

-- the place of the field that a pair names
abbrev pub field_of : List (List ℕ) → List ℕ → Option ℕ
field_of fields pair = option_and_then (λ h. place_of fields h.front) (halves_of pair)

-- whether a place that is found, if one is, is this one
abbrev pub is_found_at : ℕ → Option ℕ → Bool
is_found_at place None = false
is_found_at place (Some i) = i == place

-- whether one of these pairs names the field at a place
abbrev pub is_named : List (List ℕ) → ℕ → List (List ℕ) → Bool
is_named fields place [] = false
is_named fields place (pair ∷ pairs) = is_found_at place (field_of fields pair) || is_named fields place pairs

-- what a pair says of its field
abbrev pub value_said : Option Halves → Cell
value_said None = cell.Same
value_said (Some h) = cell_said h.back

-- why a pair is refused behind others, by the first cause of the order; it is the at-th of the text
abbrev pub pair_cause : List (List ℕ) → List (List ℕ) → ℕ → List ℕ → Option EventRefused
pair_cause fields before at pair =
    if is_none (halves_of pair) then Some (refused.BadPair at)
    else if is_none (field_of fields pair) then Some (refused.UnknownField at)
    else if is_named fields (unwrap_or (field_of fields pair) 0) before then Some (refused.TwiceField at)
    else if is_textual (value_said (halves_of pair)) then None
    else Some (refused.BadText at)

-- the first pair behind others that has a cause, and its cause
abbrev pub first_cause : List (List ℕ) → List (List ℕ) → List (List ℕ) → Option EventRefused
first_cause fields before [] = None
first_cause fields before (pair ∷ pairs) =
    option_or (pair_cause fields before (length before + 1) pair) (first_cause fields (before ++ pair ∷ []) pairs)

-- the cells behind a pair, or why it is refused: the same by the cells that the pairs before it said
abbrev pub cells_behind : List (List ℕ) → List Cell → ℕ → List ℕ → Result (List Cell) EventRefused
cells_behind fields cells at pair =
    if is_none (halves_of pair) then Err (refused.BadPair at)
    else if is_none (field_of fields pair) then Err (refused.UnknownField at)
    else if says (cell_at cells (unwrap_or (field_of fields pair) 0)) then Err (refused.TwiceField at)
    else if is_textual (value_said (halves_of pair))
    then Ok (set cells (unwrap_or (field_of fields pair) 0) (value_said (halves_of pair)))
    else Err (refused.BadText at)

-- the cell of the field at a place: what the pair that names it says, and Same where none does
abbrev pub cell_named : List (List ℕ) → List (List ℕ) → ℕ → Cell
cell_named fields [] place = cell.Same
cell_named fields (pair ∷ pairs) place = if is_found_at place (field_of fields pair) then value_said (halves_of pair)
    else cell_named fields pairs place

-- what a function gives for so many numbers, from one on
abbrev pub table : {A : Type 0} → (ℕ → A) → ℕ → ℕ → List A
table f from zero = []
table f from (suc n) = f from ∷ table f (from + 1) n

-- the cells that pairs say of the fields
abbrev pub cells_of : List (List ℕ) → List (List ℕ) → List Cell
cells_of fields pairs = table (cell_named fields pairs) 0 (length fields)

-- an update of these cells, or the cause that stands against it
abbrev pub update_of : Option EventRefused → List Cell → Result Event EventRefused
update_of None cells = Ok (Update cells)
update_of (Some cause) cells = Err cause

-- the event that a text says of fields: `!` alone is a Clear; otherwise the cells of its pairs, or the first cause of a
-- refusal
abbrev pub event_of : List (List ℕ) → List ℕ → Result Event EventRefused
event_of fields text =
    if text_eq text (codes "!") then Ok Clear
    else update_of (first_cause fields [] (pairs_of text)) (cells_of fields (pairs_of text))

-- an answer is what was to be answered, or that memory was refused
abbrev pub AnswersEvent : {A : Type 0} → Result A EventRefused → Result A EventRefused → Type 0
AnswersEvent want (Ok given) = want ≡ Ok given
AnswersEvent want (Err cause) = (cause ≡ refused.NoMemory) ⊎ (want ≡ Err cause)
