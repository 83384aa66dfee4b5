-- The parameters that an `add` line's words are handed on as (this project's profile; TLCP 2.1, control with LS_op
-- add).
use Rattle.std.specs.Prelude.{ℕ, ◌==◌, List, [], ◌∷◌, ◌++◌, map, Bool, true, ◌&&◌, Option, None, Some, codes}
use Rattle.std.specs.Prelude.{if◌then◌else◌}
use Rattle.std.specs.Fmt.{decimal}
use Rattle.std.specs.Str.{is_utf8}
use Rattle.ls_event.specs.declared.event.Mode.{Mode}
use Rattle.ls_event.specs.declared.event.Mode.TheVariants as mode
use Rattle.ls_form.specs.declared.form.Pair.{Pair}
use Rattle.ls_step.specs.declared.step.AddWords.{AddWords}

-- whether a word that may be absent is UTF-8
abbrev pub is_utf8_word : Option (List ℕ) → Bool
is_utf8_word None = true
is_utf8_word (Some text) = is_utf8 text

-- whether each word is UTF-8
abbrev pub are_utf8 : AddWords → Bool
are_utf8 w = is_utf8 w.sub && is_utf8 w.items && is_utf8 w.fields && is_utf8_word w.snapshot && is_utf8_word w.buffer
    && is_utf8_word w.frequency

-- a line divides names by commas, a request by spaces
abbrev pub spaced_byte : ℕ → ℕ
spaced_byte b = if b == 44 then 32 else b

-- names with a space for each comma
abbrev pub spaced : List ℕ → List ℕ
spaced text = map spaced_byte text

-- the word of a mode (TLCP 2.1, LS_mode)
abbrev pub mode_word : Mode → List ℕ
mode_word mode.Raw = codes "RAW"
mode_word mode.Merge = codes "MERGE"
mode_word mode.Distinct = codes "DISTINCT"
mode_word mode.Command = codes "COMMAND"

-- a parameter by its name and its text
abbrev pub parameter : List ℕ → List ℕ → Pair
parameter name text = record { name = name; text = text }

-- a parameter that may be absent
abbrev pub extra_parameter : List ℕ → Option (List ℕ) → List Pair
extra_parameter name None = []
extra_parameter name (Some text) = parameter name text ∷ []

-- the parameters that each `add` line has; the request's own name is the number of the line
abbrev pub needed_pairs : ℕ → AddWords → List Pair
needed_pairs line w =
    parameter (codes "LS_reqId") (decimal line)
    ∷ parameter (codes "LS_op") (codes "add")
    ∷ parameter (codes "LS_subId") w.sub
    ∷ parameter (codes "LS_mode") (mode_word w.mode)
    ∷ parameter (codes "LS_group") (spaced w.items)
    ∷ parameter (codes "LS_schema") (spaced w.fields)
    ∷ []

-- all parameters
abbrev pub all_pairs : ℕ → AddWords → List Pair
all_pairs line w =
    ((needed_pairs line w ++ extra_parameter (codes "LS_snapshot") w.snapshot)
    ++ extra_parameter (codes "LS_requested_buffer_size") w.buffer)
    ++ extra_parameter (codes "LS_requested_max_frequency") w.frequency

-- the parameters of the request that an `add` line of this number says, whose words stand for themselves: none where
-- one of them isn't UTF-8
abbrev pub add_pairs : ℕ → AddWords → Option (List Pair)
add_pairs line w = if are_utf8 w then Some (all_pairs line w) else None
