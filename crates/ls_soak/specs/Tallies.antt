-- What is counted of printed lines (this project's profile).
use Rattle.std.specs.Prelude.{◌==◌, ℕ, ◌+◌, List, [], length, filter, Bool, false, Option, None, Some, codes}
use Rattle.std.specs.Prelude.{if◌then◌else◌}
use Rattle.std.specs.List.{starts_with}
use Rattle.ls_words.specs.Words.{Halves, split_once}
use Rattle.ls_world.specs.Script.{whole_from}
use Rattle.ls_soak.specs.declared.tally.Tally.{Tally}

-- whether the text behind a connection's name and `:` is an update, which begins with `U,`
abbrev pub begins_update : Option Halves → Bool
begins_update None = false
begins_update (Some h) = starts_with (λ a b. a == b) h.back (codes "U,")

-- whether a printed line is an update
abbrev pub is_update : List ℕ → Bool
is_update line = begins_update (split_once 58 line)

-- how many lines these are, and how many of them are updates
abbrev pub tally_of : List (List ℕ) → Tally
tally_of lines = record { lines = length lines; updates = length (filter is_update lines) }

-- the lines of a text, each of which ends with LF
abbrev pub lines_in : List ℕ → List (List ℕ)
lines_in text = whole_from [] text

-- a tally and another one together
abbrev pub joined : Tally → Tally → Tally
joined s t = record { lines = s.lines + t.lines; updates = s.updates + t.updates }

-- one line more
abbrev pub counted : Tally → List ℕ → Tally
counted t line = record { lines = t.lines + 1; updates = if is_update line then t.updates + 1 else t.updates }

-- nothing is counted
abbrev pub no_lines : Tally
no_lines = record { lines = 0; updates = 0 }
