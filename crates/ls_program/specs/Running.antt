-- What a run of the program did where its words ask for a server, or for a soak.
use Rattle.std.specs.Prelude.{◌≡◌, ◌⊎◌, ⊤, ℕ, List, Option, None, Some, Err}
use Rattle.ls_arguments.specs.declared.command_line.CommandLine.{CommandLine}
use Rattle.ls_arguments.specs.declared.command_line.CommandLine.TheVariants as line
use Rattle.ls_config.specs.declared.reading.ConfigRefused.TheVariants as refused
use Rattle.ls_config.specs.Configs.{config_of}
use Rattle.ls_door.specs.Doors.{Ports}
use Rattle.ls_run.specs.declared.running.Status.{Status}
use Rattle.ls_run.specs.declared.running.Status.TheVariants as status
use Rattle.ls_serve.specs.declared.serving.Order.{Order}
use Rattle.ls_serve.specs.declared.serving.ServeEnd.{ServeEnd}
use Rattle.ls_serve.specs.declared.serving.ServeEnd.TheVariants as end
use Rattle.ls_serve.specs.Serving.{Served, StopsAt}
use Rattle.ls_soak.specs.declared.soaking.SoakEnd.{SoakEnd}
use Rattle.ls_soak.specs.declared.soaking.SoakEnd.TheVariants as soak_end
use Rattle.ls_soak.specs.declared.soaking.SoakOrder.{SoakOrder}
use Rattle.ls_soak.specs.Soaking.{Soaked}

-- what a command line asks a server for
abbrev pub server_of : CommandLine → Option Order
server_of line.Replay = None
server_of (line.Serve port feed end) = Some (record { port = port; feed = feed; end = end })
server_of (line.Soak start steps) = None

-- what a command line asks a soak for
abbrev pub soak_of : CommandLine → Option SoakOrder
soak_of line.Replay = None
soak_of (line.Serve port feed end) = None
soak_of (line.Soak start steps) = Some (record { start = start; steps = steps })

-- the status of a server that ended so
abbrev pub status_at : ServeEnd → Status
status_at end.Stopped = status.Ok
status_at end.ReadFault = status.ReadFault
status_at end.WriteFault = status.WriteFault
status_at end.NoMemory = status.NoMemory
status_at end.DoorFault = status.DoorFault
status_at (end.BadConfig line) = status.BadConfig line

-- a server ended, whose door has these ports
pub record RanServer (result : Status) (p : Ports) (left left' held held' : Option (List ℕ)) : Type 0 where
  pub ending : ServeEnd
  pub is : result ≡ status_at ending
  pub served : Served ending p left left' held held'

-- a config that the source tells, with a line outside the format, ends the run with the first such line, or memory was
-- wanting
abbrev pub RefusesConfig : Status → Option (List ℕ) → Type 0
RefusesConfig result None = ⊤
RefusesConfig result (Some bytes) =
    (line : ℕ) → config_of bytes ≡ Err (refused.BadConfig line)
    → (result ≡ status.BadConfig line) ⊎ (result ≡ status.NoMemory)

-- the status of a soak that ended so
abbrev pub soak_status : SoakEnd → Status
soak_status soak_end.Done = status.Ok
soak_status soak_end.WriteFault = status.WriteFault
soak_status soak_end.NoMemory = status.NoMemory

-- a soak from this number on and with so many steps ended
pub record RanSoak (result : Status) (start steps : ℕ) (held held' : Option (List ℕ)) : Type 0 where
  pub ending : SoakEnd
  pub is : result ≡ soak_status ending
  pub soaked : Soaked ending start steps held held'
