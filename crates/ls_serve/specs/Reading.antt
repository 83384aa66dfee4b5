-- What was read of a config (this project's profile).
use Rattle.std.specs.Prelude.{◌≡◌, ⊤, ℕ, List, Option, Result, Ok, Err}
use Rattle.std.specs.Io.KnownBytes.{Consumes, IsAtEnd}
use Rattle.ls_config.specs.declared.config.Config.{Config}
use Rattle.ls_config.specs.declared.reading.ConfigRefused.TheVariants as refused
use Rattle.ls_config.specs.Configs.{config_of}
use Rattle.ls_serve.specs.declared.reading.Input.{Input}
use Rattle.ls_serve.specs.declared.reading.Input.TheVariants as input
use Rattle.ls_serve.specs.declared.serving.ServeEnd.{ServeEnd}
use Rattle.ls_serve.specs.declared.serving.ServeEnd.TheVariants as end

-- some bytes were read, of a whole source all of them, and these are they
pub record TakesIn (answer : Input) (left left' : Option (List ℕ)) (bytes : List ℕ) : Type 0 where
  pub read : List ℕ
  pub consumes : Consumes left left' read
  pub whole : answer ≡ input.Whole → (bytes ≡ read) × IsAtEnd left'

-- an answer is the config that bytes say, or the first line that is outside the format; memory may be wanting at any time
abbrev pub SaysConfig : Result Config ServeEnd → List ℕ → Type 0
SaysConfig (Ok c) bytes = config_of bytes ≡ Ok c
SaysConfig (Err end.Stopped) bytes = ⊥
SaysConfig (Err end.ReadFault) bytes = ⊥
SaysConfig (Err end.WriteFault) bytes = ⊥
SaysConfig (Err end.NoMemory) bytes = ⊤
SaysConfig (Err end.DoorFault) bytes = ⊥
SaysConfig (Err (end.BadConfig line)) bytes = config_of bytes ≡ Err (refused.BadConfig line)

-- what an answer says of the bytes that were read: they are all, and say a config, or it is told which line is the first
-- outside the format; or the reading came to no end
abbrev pub OfConfig : Result Config ServeEnd → List ℕ → Option (List ℕ) → Type 0
OfConfig (Ok c) read left = IsAtEnd left × (config_of read ≡ Ok c)
OfConfig (Err end.Stopped) read left = ⊥
OfConfig (Err end.ReadFault) read left = ⊤
OfConfig (Err end.WriteFault) read left = ⊥
OfConfig (Err end.NoMemory) read left = ⊤
OfConfig (Err end.DoorFault) read left = ⊥
OfConfig (Err (end.BadConfig line)) read left = IsAtEnd left × (config_of read ≡ Err (refused.BadConfig line))

-- a config was read from a source, or not
pub record ReadsConfig (answer : Result Config ServeEnd) (left left' : Option (List ℕ)) : Type 0 where
  pub read : List ℕ
  pub consumes : Consumes left left' read
  pub says : OfConfig answer read left'
