-- A script that is read piece by piece: how far it has come, and what is written and held back of what its lines print.
use Rattle.std.specs.Prelude.{◌≡◌, ℕ, ◌+◌, List, [], ◌∷◌, ◌++◌, take, Option, Result, Ok, Err, true, false, ◌⊎◌}
use Rattle.std.specs.Io.KnownBytes.{Appends}
use Rattle.ls_world.specs.World.{World, empty}
use Rattle.ls_world.specs.Script.{whole_from, rest_from, output_of, world_of, done, has_bad_line, IsPrefix}
use Rattle.ls_run.specs.declared.engine.Engine.{Engine}
use Rattle.ls_run.specs.Engine.{StandsEngine}
use Rattle.ls_run.specs.declared.replay.Fed.{Fed}
use Rattle.ls_run.specs.declared.replay.Fed.TheVariants as fed

-- how far a script has come: the world that its lines made, and the bytes behind the last line that ended
pub record Progress : Type 0 where
  pub world : World
  pub carry : List ℕ

-- before any byte
abbrev pub start : Progress
start = record { world = empty; carry = [] }

-- after these bytes, if each line that ends in them is done
abbrev pub progress_after : Progress → List ℕ → Progress
progress_after p bytes =
    record { world = world_of p.world (whole_from p.carry bytes); carry = rest_from p.carry bytes }

-- what a replay keeps: the engine, the bytes behind the last line that ended, and what lines print that isn't written
pub record KeptReplay : Type 0 where
  pub engine : Engine
  pub carry : List ℕ
  pub unwritten : List ℕ

-- the same, where another text is held back
abbrev pub kept_with : KeptReplay → List ℕ → KeptReplay
kept_with k text = record k { unwritten = text }

-- what is kept stands for a script within a piece, whatever is held back
pub record StandsWithin (k : KeptReplay) (p : Progress) : Type 0 where
  pub engine : StandsEngine k.engine p.world
  pub carry : k.carry ≡ p.carry

-- what is kept stands for a script between two pieces, where nothing is held back
pub record StandsFor (k : KeptReplay) (p : Progress) : Type 0 where
  pub within : StandsWithin k p
  pub unwritten : k.unwritten ≡ []

-- what an answer says of lines that were met, from this world on, and of a text that was made of what they print
abbrev pub Meets : Fed → World → List (List ℕ) → List ℕ → Type 0
Meets fed.All w lines text = (has_bad_line w lines ≡ false) × (text ≡ output_of w lines)
Meets (fed.Stopped number) w lines text =
    (has_bad_line w lines ≡ true) × (number ≡ w.line + done w lines + 1) × (text ≡ output_of w lines)
Meets fed.WriteFault w lines text = IsPrefix text (output_of w lines)
Meets fed.NoMemory w lines text = IsPrefix text (output_of w lines)

-- a call met these lines: what it wrote and what is held back behind it are together what they print
pub record Feeds (answer : Fed) (w : World) (lines : List (List ℕ)) (held held' : Option (List ℕ)) (unwritten : List ℕ)
    : Type 0 where
  pub written : List ℕ
  pub appends : Appends held held' written
  pub met : Meets answer w lines (written ++ unwritten)

-- a call met these lines and wrote nothing: what they print is behind what was held back before
pub record Holds (answer : Fed) (w : World) (lines : List (List ℕ)) (unwritten unwritten' : List ℕ) : Type 0 where
  pub text : List ℕ
  pub behind : unwritten' ≡ unwritten ++ text
  pub met : Meets answer w lines text

-- what an answer says of the first bytes of a piece, behind a script that came so far: so many were taken and their
-- lines are done, or no more of the piece is
abbrev pub HoldsNext : Result ℕ Fed → Progress → List ℕ → List ℕ → List ℕ → Type 0
HoldsNext (Ok used) p piece unwritten unwritten' =
    Holds fed.All p.world (whole_from p.carry (take used piece)) unwritten unwritten'
HoldsNext (Err stopped) p piece unwritten unwritten' =
    Holds stopped p.world (whole_from p.carry piece) unwritten unwritten'

-- a front part of what is held back was written: the answer is the one before, or the rest is lost by a write fault
pub record Writes (answer before : Fed) (held held' : Option (List ℕ)) (unwritten unwritten' : List ℕ) : Type 0 where
  pub written : List ℕ
  pub rest : List ℕ
  pub appends : Appends held held' written
  pub parts : unwritten ≡ written ++ rest
  pub ends : ((answer ≡ before) × (unwritten' ≡ rest)) ⊎ ((answer ≡ fed.WriteFault) × (unwritten' ≡ []))
