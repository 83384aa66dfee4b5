-- The requests that a text message has (TLCP 2.1, WebSocket transport; this project's profile).
use Rattle.std.specs.Prelude.{ℕ, ◌==◌, ◌-◌, List, [], ◌∷◌, length, take, slice_get, codes, Bool, true, false, not, ◌&&◌, Option, None, Some, if◌then◌else◌}
use Rattle.std.specs.List.{filter}
use Rattle.std.specs.Option.{option_map_or}
use Rattle.std.specs.Borrow.{Bor}
use Rattle.ls_value.specs.Values.{text_eq}
use Rattle.ls_words.specs.Words.{divided}

-- whether a list has no member
abbrev pub is_empty : {A : Type 0} → List A → Bool
is_empty [] = true
is_empty (x ∷ xs) = false

-- a line without the CR of its CR LF
abbrev pub without_cr : List ℕ → List ℕ
without_cr line =
    if option_map_or (λ b. b == 13) (slice_get line (length line - 1)) false then take (length line - 1) line else line

-- pieces that LF divides, as lines: each but the last one ends in CR LF or LF
abbrev pub as_lines : List (List ℕ) → List (List ℕ)
as_lines [] = []
as_lines (piece ∷ pieces) = (if is_empty pieces then piece else without_cr piece) ∷ as_lines pieces

-- the lines of a text
abbrev pub lines_of : List ℕ → List (List ℕ)
lines_of text = as_lines (divided 10 text)

-- those of the rest of a text, where there is one
abbrev pub lines_after : Option (Bor (List ℕ)) → List (List ℕ)
lines_after None = []
lines_after (Some rest) = lines_of rest.now

-- the lines that aren't empty
abbrev pub filled : List (List ℕ) → List (List ℕ)
filled lines = filter (λ l. not (is_empty l)) lines

-- the first of them, or the empty text
abbrev pub first_of : List (List ℕ) → List ℕ
first_of [] = []
first_of (line ∷ lines) = line

-- whether the lines after a name are requests: those of control that aren't empty, where there is one
abbrev pub has_many : List ℕ → List (List ℕ) → Bool
has_many name lines = text_eq name (codes "control") && not (is_empty (filled lines))

-- the parameters of the requests of a name, by the lines after it: of a control message each line that isn't empty; and
-- of every other one, and where there is no such line, the first line
abbrev pub params_by : List ℕ → List (List ℕ) → List (List ℕ)
params_by name lines =
    if has_many name lines then filled lines else first_of lines ∷ []

-- the parameters of the requests of a message, in order: the first line is their name
abbrev pub params_of : List (List ℕ) → List (List ℕ)
params_of [] = []
params_of (name ∷ lines) = params_by name lines

abbrev pub params_in : List ℕ → List (List ℕ)
params_in text = params_of (lines_of text)

-- their name
abbrev pub name_in : List ℕ → List ℕ
name_in text = first_of (lines_of text)
