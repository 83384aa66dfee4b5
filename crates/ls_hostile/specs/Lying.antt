-- How runs of scripts end over pipes that aren't honest about their content (this project's profile).
use Rattle.ls_run.specs.declared.running.Status.{Status}
use Rattle.ls_run.specs.declared.running.Status.TheVariants as status
use Rattle.std.specs.Prelude.{⊤}

-- a run of a script ends so, whatever its source and its sink make of their bytes: never by an end that is a server's
abbrev pub IsOfScript : Status → Type 0
IsOfScript status.Ok = ⊤
IsOfScript status.Usage = ⊤
IsOfScript status.ReadFault = ⊤
IsOfScript status.WriteFault = ⊤
IsOfScript status.NoMemory = ⊤
IsOfScript (status.BadScript line) = ⊤
IsOfScript status.DoorFault = ⊥
IsOfScript (status.BadConfig line) = ⊥
