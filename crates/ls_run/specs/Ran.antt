-- What a run of the program did.
use Rattle.std.specs.Prelude.{◌≡◌, ◌⊎◌, ℕ, ◌+◌, List, [], ◌∷◌, ◌++◌, Bool, true, false, Option, None, Some, codes}
use Rattle.std.specs.Prelude.{if◌then◌else◌}
use Rattle.std.specs.Fmt.{decimal}
use Rattle.std.specs.Io.KnownBytes.{Consumes, Appends, IsAtEnd}
use Rattle.ls_world.specs.World.{empty}
use Rattle.ls_world.specs.Lawful.{Lawful}
use Rattle.ls_world.specs.Script.{lines_of, output_of, world_of, done, has_bad_line, whole_from, IsPrefix}
use Rattle.ls_run.specs.Replay.{start, progress_after, KeptReplay, StandsFor, Feeds}
use Rattle.ls_run.specs.declared.running.Status.{Status}
use Rattle.ls_run.specs.declared.running.Status.TheVariants as status
use Rattle.ls_run.specs.declared.replay.Fed.{Fed}
use Rattle.ls_run.specs.declared.replay.Fed.TheVariants as fed

-- the words ask for a replay: there is one, `replay`
abbrev pub IsReplay : List (List ℕ) → Type 0
IsReplay words = words ≡ codes "replay" ∷ []

-- no line is bad, what they print was written, and the world that they make is lawful
pub record DoesAll (lines : List (List ℕ)) (written : List ℕ) : Type 0 where
  pub good : has_bad_line empty lines ≡ false
  pub text : written ≡ output_of empty lines
  pub lawful : Lawful (world_of empty lines)

-- the line of this number, from 1, is the first bad one, what those before it print was written, and the world that
-- they make is lawful
pub record StopsAt (line : ℕ) (lines : List (List ℕ)) (written : List ℕ) : Type 0 where
  pub bad : has_bad_line empty lines ≡ true
  pub number : line ≡ done empty lines + 1
  pub text : written ≡ output_of empty lines
  pub lawful : Lawful (world_of empty lines)

-- what a status says of what was read and written, and of the end
abbrev pub Outcome : Status → List ℕ → List ℕ → Bool → Type 0
Outcome status.Ok read written ended = (ended ≡ true) × DoesAll (lines_of ended read) written
Outcome status.Usage read written ended = (read ≡ []) × (written ≡ [])
Outcome status.ReadFault read written ended = (ended ≡ false) × DoesAll (lines_of ended read) written
Outcome status.WriteFault read written ended = IsPrefix written (output_of empty (lines_of ended read))
Outcome status.NoMemory read written ended = IsPrefix written (output_of empty (lines_of ended read))
Outcome (status.BadScript line) read written ended = StopsAt line (lines_of ended read) written
Outcome status.DoorFault read written ended = ⊥
Outcome (status.BadConfig line) read written ended = ⊥

-- some bytes were read and some were written, as the status says; the source is at its end where ended
pub record Ran (result : Status) (left left' held held' : Option (List ℕ)) : Type 0 where
  pub read : List ℕ
  pub written : List ℕ
  pub ended : Bool
  pub consumes : Consumes left left' read
  pub appends : Appends held held' written
  pub at_end : ended ≡ true → IsAtEnd left'
  pub outcome : Outcome result read written ended

-- a run that ends well counted no fault: the counts of source and sink are as before
abbrev pub CountsNoFault : Status → ℕ → ℕ → ℕ → ℕ → Type 0
CountsNoFault result f f' g g' = result ≡ status.Ok → (f' ≡ f) × (g' ≡ g)

-- how a script ends, if neither a read nor a write fails and memory suffices
abbrev pub end_of : List (List ℕ) → Status
end_of lines = if has_bad_line empty lines then status.BadScript (done empty lines + 1) else status.Ok

-- a script that the source tells was done to its end, or to its first bad line, and all that it prints was written;
-- or memory was wanting
abbrev pub Completes : Status → Option (List ℕ) → Option (List ℕ) → Option (List ℕ) → Type 0
Completes result None held held' = Unit {0}
Completes result (Some script) held held' =
    ((result ≡ end_of (lines_of true script)) × Appends held held' (output_of empty (lines_of true script)))
    ⊎ (result ≡ status.NoMemory)

-- a run between two pieces: each line of the bytes read so far is done, and what they print is written
pub record Going (k : KeptReplay) (left left' held held' : Option (List ℕ)) : Type 0 where
  pub read : List ℕ
  pub consumes : Consumes left left' read
  pub now : StandsFor k (progress_after start read)
  pub feeds : Feeds fed.All empty (whole_from [] read) held held' []

-- the status where no more is done
abbrev pub status_at : Fed → Status
status_at fed.All = status.Ok
status_at (fed.Stopped line) = status.BadScript line
status_at fed.WriteFault = status.WriteFault
status_at fed.NoMemory = status.NoMemory

-- the number with which the program ends
abbrev pub number_at : Status → ℕ
number_at status.Ok = 0
number_at status.Usage = 2
number_at (status.BadScript line) = 3
number_at status.ReadFault = 4
number_at status.WriteFault = 5
number_at status.NoMemory = 6
number_at status.DoorFault = 7
number_at (status.BadConfig line) = 8

-- what is shown of a fault
abbrev pub fault_text : Status → List ℕ
fault_text status.Ok = codes "ok"
fault_text status.Usage = codes "usage"
fault_text status.ReadFault = codes "read fault"
fault_text status.WriteFault = codes "write fault"
fault_text status.NoMemory = codes "out of memory"
fault_text (status.BadScript line) = codes "bad script line " ++ decimal line
fault_text status.DoorFault = codes "door fault"
fault_text (status.BadConfig line) = codes "bad config line " ++ decimal line
