-- What a server did, by its end (this project's profile).
use Rattle.std.specs.Prelude.{◌≡◌, ◌⊎◌, ⊤, ℕ, ◌≤◌, List, [], ◌∷◌, ◌++◌, Option, None, Some, Result, Ok, Err, codes}
use Rattle.std.specs.Fmt.{decimal}
use Rattle.std.specs.Io.KnownBytes.{Consumes, Appends, Keeps, IsAtEnd}
use mathlib.Core.List.{IsPrefix}
use Rattle.ls_config.specs.declared.config.Config.{Config}
use Rattle.ls_config.specs.declared.reading.ConfigRefused.TheVariants as refused
use Rattle.ls_config.specs.Configs.{config_of}
use Rattle.ls_door.specs.Doors.{Ports}
use Rattle.ls_serve.specs.declared.serving.ServeEnd.{ServeEnd}
use Rattle.ls_serve.specs.declared.serving.ServeEnd.TheVariants as end

-- the line that says at which ports the door listens, that for clients first
abbrev pub listening_line : Ports → List ℕ
listening_line p =
    ((((codes "listening " ++ decimal p.port) ++ (32 ∷ [])) ++ decimal p.feed) ++ (10 ∷ []))

-- the line that says that it stopped
abbrev pub stopped_line : List ℕ
stopped_line = codes "stopped" ++ (10 ∷ [])

-- both lines
abbrev pub lines_at : Ports → List ℕ
lines_at p = listening_line p ++ stopped_line

-- bytes say a config
abbrev pub IsConfig : List ℕ → Type 0
IsConfig bytes = (c : Config) × (config_of bytes ≡ Ok c)

-- what an end says of what a server with a config wrote, whose door has these ports: both lines where it stopped;
-- nothing where the door failed; at most both, from the front, where a write failed or memory was wanting
abbrev pub Tells : ServeEnd → Ports → List ℕ → Type 0
Tells end.Stopped p written = written ≡ lines_at p
Tells end.ReadFault p written = ⊥
Tells end.WriteFault p written = IsPrefix written (lines_at p)
Tells end.NoMemory p written = IsPrefix written (lines_at p)
Tells end.DoorFault p written = written ≡ []
Tells (end.BadConfig line) p written = ⊥

-- some bytes were written, as the end says
pub record Told (ending : ServeEnd) (p : Ports) (held held' : Option (List ℕ)) : Type 0 where
  pub written : List ℕ
  pub appends : Appends held held' written
  pub tells : Tells ending p written

-- what an end says of what was read and written, and of the source: it was read to its end and says a config, and the
-- lines are those above; or its first line outside the format is told, and nothing was written; or reading failed, and
-- nothing was written
abbrev pub Outcome : ServeEnd → Ports → List ℕ → List ℕ → Option (List ℕ) → Type 0
Outcome end.Stopped p read written left = IsAtEnd left × IsConfig read × (written ≡ lines_at p)
Outcome end.ReadFault p read written left = written ≡ []
Outcome end.WriteFault p read written left = IsAtEnd left × IsConfig read × IsPrefix written (lines_at p)
Outcome end.NoMemory p read written left = IsPrefix written (lines_at p)
Outcome end.DoorFault p read written left = IsAtEnd left × IsConfig read × (written ≡ [])
Outcome (end.BadConfig line) p read written left =
    IsAtEnd left × (config_of read ≡ Err (refused.BadConfig line)) × (written ≡ [])

-- some bytes were read and some were written, as the end says
pub record Served (ending : ServeEnd) (p : Ports) (left left' held held' : Option (List ℕ)) : Type 0 where
  pub read : List ℕ
  pub written : List ℕ
  pub consumes : Consumes left left' read
  pub appends : Appends held held' written
  pub outcome : Outcome ending p read written left'

-- a config that the source tells, with a line outside the format, ends the server with the first such line, or memory
-- was wanting
abbrev pub RefusesConfig : ServeEnd → Option (List ℕ) → Type 0
RefusesConfig ending None = ⊤
RefusesConfig ending (Some bytes) =
    (line : ℕ) → config_of bytes ≡ Err (refused.BadConfig line)
    → (ending ≡ end.BadConfig line) ⊎ (ending ≡ end.NoMemory)

-- it stopped only at a tick at which it was to end, or a later one
abbrev pub StopsAt : Option ℕ → ℕ → Type 0
StopsAt None told = ⊥
StopsAt (Some tick) told = tick ≤ told

-- a whole text was put, or less than all of it
abbrev pub PutsText : Result (Unit {0}) ServeEnd → Option (List ℕ) → Option (List ℕ) → List ℕ → Type 0
PutsText (Ok u) held held' text = Appends held held' text
PutsText (Err end.Stopped) held held' text = ⊥
PutsText (Err end.ReadFault) held held' text = ⊥
PutsText (Err end.WriteFault) held held' text = (part : List ℕ) × IsPrefix part text × Appends held held' part
PutsText (Err end.NoMemory) held held' text = Keeps held held'
PutsText (Err end.DoorFault) held held' text = ⊥
PutsText (Err (end.BadConfig line)) held held' text = ⊥
