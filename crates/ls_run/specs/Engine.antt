-- What the engine holds, and the world that it stands for.
use Rattle.std.specs.Prelude.{◌≡◌, ℕ, ◌+◌, List, ◌++◌, Option, None, Some}
use Rattle.ls_script.specs.declared.script.ScriptRefused.{ScriptRefused}
use Rattle.ls_script.specs.declared.script.ScriptRefused.TheVariants as script
use Rattle.ls_world.specs.World.{World}
use Rattle.ls_world.specs.Steps.{Stepped}
use Rattle.ls_world.specs.Script.{known_of, step as one_step, text_of_outs}
use Rattle.ls_hub.specs.Hub.{StandsHub}
use Rattle.ls_run.specs.declared.engine.Engine.{Engine}
use Rattle.ls_run.specs.declared.engine.LineRefused.{LineRefused}
use Rattle.ls_run.specs.declared.engine.LineRefused.TheVariants as line

-- an engine stands for a world
pub record StandsEngine (e : Engine) (w : World) : Type 0 where
  pub line : e.line ≡ w.line
  pub known : e.script ≡ known_of w
  pub hub : StandsHub e.hub w

-- a line's step is made and appends what it prints to a text, and the engine stands for the world after it
abbrev pub Steps : Option Stepped → List ℕ → List ℕ → Engine → Type 0
Steps None text text' e = ⊥
Steps (Some s) text text' e = (text' ≡ text ++ text_of_outs s.outs) × StandsEngine e s.after

-- a line is bad, and the engine has its number
abbrev pub IsBad : World → List ℕ → Engine → Type 0
IsBad w bytes e = (one_step w bytes ≡ None) × (e.line ≡ w.line + 1)

-- a refusal of the script's reader, as the engine hands it on
abbrev pub script_cause : ScriptRefused → LineRefused
script_cause script.BadLine = line.BadLine
script_cause script.NoMemory = line.NoMemory
