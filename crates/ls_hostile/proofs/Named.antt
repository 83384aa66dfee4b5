-- What is known of a run's end gives that it is a script's.
use Rattle.std.specs.Prelude.{ℕ, List, Bool}
use Rattle.ls_run.specs.Ran.{Outcome}
use Rattle.ls_run.specs.declared.running.Status.{Status}
use Rattle.ls_run.specs.declared.running.Status.TheVariants as status
use Rattle.ls_hostile.specs.Lying.{IsOfScript}

pub named : (s : Status) (read written : List ℕ) (ended : Bool) → Outcome s read written ended → IsOfScript s
named status.Ok read written ended o = tt
named status.Usage read written ended o = tt
named status.ReadFault read written ended o = tt
named status.WriteFault read written ended o = tt
named status.NoMemory read written ended o = tt
named (status.BadScript line) read written ended o = tt
named status.DoorFault read written ended o = o
named (status.BadConfig line) read written ended o = o
