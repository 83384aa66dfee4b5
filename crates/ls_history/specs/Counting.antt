-- What is counted of a session's history.
use Rattle.std.specs.Prelude.{◌≡◌, ◌≤◌, List, length, Option, Some, option_map}
use Rattle.std.specs.Option.{ForSome}
use Rattle.ls_value.specs.declared.limits.TheConstants.{GREATEST_TICK}
use Rattle.ls_register.specs.declared.told.Told.{Told}
use Rattle.ls_told.specs.Heard.{latest_of, keepalive_of, last_gave, last_given, LineGiven, has_rebind}
use Rattle.ls_history.specs.declared.history.Given.{Given}
use Rattle.ls_history.specs.declared.history.Counters.{Counters}

-- the line that was given last, if it is known
abbrev pub GivenIs : Option Given → List Told → Type 0
GivenIs given es = ForSome given (λ g. last_gave g.epoch es ≡ Some g.tick)

-- what is kept of it
abbrev pub line_given : Given → LineGiven
line_given g = record { epoch = g.epoch; tick = g.tick }

-- what is counted is true of the entries
pub record Counts (c : Counters) (es : List Told) : Type 0 where
  pub entries : c.entries ≡ length es
  pub latest : c.latest ≡ latest_of es
  pub most : latest_of es ≤ GREATEST_TICK
  pub keepalive : c.keepalive ≡ keepalive_of es
  pub given : GivenIs c.given es
  pub forced : c.forced ≡ has_rebind es
  pub last : option_map line_given c.given ≡ last_given es
