-- What a soak writes, and how far it has come (this project's profile).
use Rattle.std.specs.Prelude.{◌≡◌, ℕ, List, [], ◌∷◌, ◌++◌, Option, false, codes}
use Rattle.std.specs.Fmt.{decimal}
use Rattle.std.specs.Io.KnownBytes.{Appends}
use Rattle.ls_world.specs.World.{World, empty}
use Rattle.ls_world.specs.Script.{output_of, has_bad_line, IsPrefix}
use Rattle.ls_run.specs.declared.engine.Engine.{Engine}
use Rattle.ls_run.specs.Engine.{StandsEngine}
use Rattle.ls_soak.specs.declared.tally.Tally.{Tally}
use Rattle.ls_soak.specs.declared.soaking.SoakEnd.{SoakEnd}
use Rattle.ls_soak.specs.declared.soaking.SoakEnd.TheVariants as end
use Rattle.ls_soak.specs.Drawing.{script}
use Rattle.ls_soak.specs.Tallies.{tally_of, lines_in, joined}

-- what the lines of the script print
abbrev pub printed : ℕ → ℕ → List ℕ
printed start steps = output_of empty (script start steps)

-- a line of a word and a number
abbrev pub count_line : List ℕ → ℕ → List ℕ
count_line word n = word ++ decimal n ++ 10 ∷ []

-- the three lines of a soak: its steps, the lines that its script prints, and the updates among these
abbrev pub report_of : ℕ → Tally → List ℕ
report_of steps t =
    count_line (codes "steps ") steps ++ count_line (codes "lines ") t.lines ++ count_line (codes "updates ") t.updates

abbrev pub report : ℕ → ℕ → List ℕ
report start steps = report_of steps (tally_of (lines_in (printed start steps)))

-- what an end says of what was written
abbrev pub Wrote : SoakEnd → List ℕ → List ℕ → Type 0
Wrote end.Done wanted written = written ≡ wanted
Wrote end.WriteFault wanted written = IsPrefix written wanted
Wrote end.NoMemory wanted written = written ≡ []

-- something was written, as the end says of what was wanted
pub record Reported (ending : SoakEnd) (wanted : List ℕ) (held held' : Option (List ℕ)) : Type 0 where
  pub written : List ℕ
  pub appends : Appends held held' written
  pub wrote : Wrote ending wanted written

-- a soak ended: it wrote its three lines, or a front part of them
abbrev pub Soaked : SoakEnd → ℕ → ℕ → Option (List ℕ) → Option (List ℕ) → Type 0
Soaked ending start steps held held' = Reported ending (report start steps) held held'

-- an engine has done some lines and these are left, none of which is bad; what was counted of those before, and what
-- is to be counted of these, is together one tally
pub record Leaves (e : Engine) (t : Tally) (lines : List (List ℕ)) (all : Tally) : Type 0 where
  pub world : World
  pub stands : StandsEngine e world
  pub good : has_bad_line world lines ≡ false
  pub counts : joined t (tally_of (lines_in (output_of world lines))) ≡ all
