-- What came to a client of an item of a subscription, with the numbers of the item's history that each line speaks of.
use Rattle.std.specs.Prelude.{ℕ, List, map}
use Rattle.ls_event.specs.declared.event.Taken.{Taken}
use Rattle.ls_event.specs.Slots.{Slot}
use Rattle.ls_mirror.specs.Client.{What}
use Rattle.ls_event.specs.declared.event.Taken.TheVariants as taken

-- what came to the client by a line: the cursor before it, the number up to which it tells, and the last number that
-- was enqueued then
pub record Came : Type 0 where
  pub what : What
  pub before : ℕ
  pub upto : ℕ
  pub at : ℕ

-- the number up to which a cut tells
abbrev pub upto_of : Slot → Taken → ℕ
upto_of s (taken.Row row upto) = upto
upto_of s (taken.Lost count upto) = upto
upto_of s (taken.Change cells upto) = upto
upto_of s (taken.Key key row upto) = upto
upto_of s (taken.Cleared upto) = upto
upto_of s taken.EndOfSnapshot = s.cursor

-- what comes by a cut that makes a line
abbrev pub came_by : Slot → Taken → What → Came
came_by s t what = record { what = what; before = s.cursor; upto = upto_of s t; at = s.last }

-- what came, without the numbers: all that a client knows of it
abbrev pub whats : List Came → List What
whats cs = map (λ c. c.what) cs
