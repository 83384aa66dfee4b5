-- The run of a script: its lines, what is printed for them, and the world that they make (this project's profile).
use Rattle.std.specs.Prelude.{◌≡◌, ◌==◌, ℕ, ◌+◌, List, [], ◌∷◌, ◌++◌, map, Bool, true, false, Option, Some, option_map}
use Rattle.std.specs.Prelude.{if◌then◌else◌}
use Rattle.std.specs.List.{flat_map}
use Rattle.ls_step.specs.declared.out.Out.{Out}
use Rattle.ls_step.specs.Grammar.{Known, is_skipped, line_of}
use Rattle.ls_step.specs.Notes.{text_of_out}
use Rattle.ls_record.specs.Cases.{with_found}
use Rattle.ls_world.specs.World.{World}
use Rattle.ls_world.specs.Steps.{Stepped, stays, does}

-- one line more was read
abbrev pub with_line_read : World → World
with_line_read w = record w { line = w.line + 1 }

-- what is known of a world
abbrev pub known_of : World → Known
known_of w =
    record { items = map (λ i. i.definition) w.items; connections = map (λ c. c.name) w.connections; tick = w.tick }

-- one line of a script; it is bad where it is outside the grammar, or names something that isn't declared
abbrev pub step : World → List ℕ → Option Stepped
step w line =
    if is_skipped line then Some (stays (with_line_read w) [])
    else option_map (λ r. does (with_line_read w) r.step r.times) (line_of (known_of w) line)

-- the whole lines, where carry stands before the bytes
abbrev pub whole_from : List ℕ → List ℕ → List (List ℕ)
whole_from carry [] = []
whole_from carry (b ∷ bs) = if b == 10 then carry ∷ whole_from [] bs else whole_from (carry ++ b ∷ []) bs

-- what stands behind the last whole line
abbrev pub rest_from : List ℕ → List ℕ → List ℕ
rest_from carry [] = carry
rest_from carry (b ∷ bs) = if b == 10 then rest_from [] bs else rest_from (carry ++ b ∷ []) bs

-- a rest that isn't empty is a line
abbrev pub last_line : List ℕ → List (List ℕ)
last_line [] = []
last_line (b ∷ bs) = (b ∷ bs) ∷ []

-- the lines of a text, whose rest counts where it has ended
abbrev pub lines_of : Bool → List ℕ → List (List ℕ)
lines_of ended bytes = whole_from [] bytes ++ (if ended then last_line (rest_from [] bytes) else [])

-- what is printed
abbrev pub text_of_outs : List Out → List ℕ
text_of_outs outs = flat_map text_of_out outs

-- what is printed for the lines before the first bad one
abbrev pub output_of : World → List (List ℕ) → List ℕ
output_of w [] = []
output_of w (line ∷ lines) = with_found (step w line) [] (λ s. text_of_outs s.outs ++ output_of s.after lines)

-- the world after them
abbrev pub world_of : World → List (List ℕ) → World
world_of w [] = w
world_of w (line ∷ lines) = with_found (step w line) w (λ s. world_of s.after lines)

-- how many lines come before the first bad one
abbrev pub done : World → List (List ℕ) → ℕ
done w [] = 0
done w (line ∷ lines) = with_found (step w line) 0 (λ s. done s.after lines + 1)

-- whether there is a bad line
abbrev pub has_bad_line : World → List (List ℕ) → Bool
has_bad_line w [] = false
has_bad_line w (line ∷ lines) = with_found (step w line) true (λ s. has_bad_line s.after lines)

-- a text begins another
abbrev pub IsPrefix : List ℕ → List ℕ → Type 0
IsPrefix part all = (more : List ℕ) × (all ≡ part ++ more)
