-- One session apart from all others: which steps are its own, what it sees of a world, and what it is told in a run.
use Rattle.std.specs.Prelude.{◌≡◌, ◌==◌, ℕ, List, [], ◌∷◌, ◌++◌, length, map, Bool, true, false, Option, None, Some}
use Rattle.std.specs.Prelude.{codes, if◌then◌else◌, slice_get, option_map, nat_lt}
use Rattle.std.specs.List.{Contains}
use Rattle.std.specs.Option.{option_map_or}
use Rattle.ls_form.specs.Forms.{form_of}
use Rattle.ls_request.specs.declared.request.LinkKind.TheVariants as link
use Rattle.ls_request.specs.declared.request.Op.{Op}
use Rattle.ls_request.specs.declared.request.Op.TheVariants as op
use Rattle.ls_request.specs.declared.request.Request.{Request}
use Rattle.ls_request.specs.declared.request.Request.TheVariants as request
use Rattle.ls_step.specs.declared.out.Out.{Out}
use Rattle.ls_step.specs.declared.step.Step.{Step}
use Rattle.ls_step.specs.declared.step.Step.TheVariants as step
use Rattle.ls_step.specs.declared.step.Repeat.{Repeat}
use Rattle.ls_step.specs.Adding.{add_pairs}
use Rattle.ls_world.specs.World.{World, Connection}
use Rattle.ls_record.specs.Records.{Item, LiveSlot, Board, Session, on_board}
use Rattle.ls_record.specs.Acting.{free_slots}
use Rattle.ls_value.specs.Each.{Each}
use Rattle.ls_world.specs.Steps.{session_of, session_named, link_of, does}
use Rattle.ls_record.specs.Acting.{request_over}

-- a slot, a board and a session without the numbers of slots
abbrev pub unnumbered_slot : LiveSlot → LiveSlot
unnumbered_slot v = record v { number = 0 }

abbrev pub unnumbered_board : Board → Board
unnumbered_board b = record b { round = map unnumbered_slot b.round }

abbrev pub unnumbered : Session → Session
unnumbered s = on_board unnumbered_board s

-- what a session, by its place from 0, sees of a world on a connection: of this its epoch too
pub record Seen : Type 0 where
  pub items : List Item
  pub tick : ℕ
  pub line : ℕ
  pub connection : Option Connection
  pub session : Option Session

-- the items, the clock, how many script lines there were, which numbers the request of an add, the connection, and the
-- session but for the numbers of its slots
abbrev pub seen : ℕ → ℕ → World → Seen
seen n connection w =
    record {
      items = w.items;
      tick = w.tick;
      line = w.line;
      connection = slice_get w.connections connection;
      session = option_map unnumbered (slice_get w.sessions n);
    }

-- the connection of a step, where it is an add, a request, an enqueue, a take or a loss
abbrev pub connection_of : Step → Option ℕ
connection_of (step.Set name) = None
connection_of (step.Item name k fields) = None
connection_of (step.Tick ms) = None
connection_of (step.Conn name l) = None
connection_of (step.Open name) = None
connection_of (step.Add connection words) = Some connection
connection_of (step.Request connection name parameters) = Some connection
connection_of (step.Publish adapter seq item cells) = None
connection_of (step.Clear adapter seq item) = None
connection_of (step.Enqueue connection sub rank) = Some connection
connection_of (step.Take connection) = Some connection
connection_of (step.Lose connection) = Some connection

-- the session of a request, by its place from 0: the one that a control request or a bind_session names, none of a
-- create_session, and else the connection's, also where the request is malformed
abbrev pub session_asked : World → ℕ → Option Request → Option ℕ
session_asked w connection None = session_of w connection
session_asked w connection (Some (request.Create c)) = None
session_asked w connection (Some (request.Bind b)) = session_named w connection (Some b.session)
session_asked w connection (Some (request.Control c)) = session_named w connection c.session
session_asked w connection (Some request.Wsok) = session_of w connection

-- the request that a step says, where it can be read
abbrev pub request_said : World → Step → Option Request
request_said w (step.Add connection words) = request_over link.Ws (codes "control") (add_pairs w.line words)
request_said w (step.Request connection name parameters) =
    request_over (link_of w connection) name (form_of parameters)
request_said w s = None

-- the session of a step: the connection's, where it is an enqueue, a take or a loss, and else its request's
abbrev pub session_meant : World → Step → Option ℕ
session_meant w (step.Add connection words) = session_asked w connection (request_said w (step.Add connection words))
session_meant w (step.Request connection name parameters) =
    session_asked w connection (request_said w (step.Request connection name parameters))
session_meant w (step.Enqueue connection sub rank) = session_of w connection
session_meant w (step.Take connection) = session_of w connection
session_meant w (step.Lose connection) = session_of w connection
session_meant w s = None

-- whether a step is one of the session of this place
abbrev pub is_own : ℕ → World → Step → Bool
is_own n w s = option_map_or (λ m. m == n) (session_meant w s) false

-- whether an add, a request and a step ask for more slots than the server may still give
abbrev pub lacks_slots_for : World → Op → Bool
lacks_slots_for w (op.Add a) = nat_lt (free_slots w.sessions) (length a.group)
lacks_slots_for w o = false

abbrev pub lacks_slots_of : World → Request → Bool
lacks_slots_of w (request.Control c) = lacks_slots_for w c.op
lacks_slots_of w r = false

abbrev pub lacks_slots : World → Step → Bool
lacks_slots w s = option_map_or (lacks_slots_of w) (request_said w s) false

-- whether a step may change the items: a new one, an update or a Clear
abbrev pub changes_items : Step → Bool
changes_items (step.Item name k fields) = true
changes_items (step.Publish adapter seq item cells) = true
changes_items (step.Clear adapter seq item) = true
changes_items s = false

-- whether a step sets the clock
abbrev pub sets_clock : Step → Bool
sets_clock (step.Tick ms) = true
sets_clock s = false

-- a step leaves the items and sets no clock, which all sessions see
pub record LeavesShared (w : World) (r : Repeat) : Type 0 where
  pub items : (does w r.step r.times).after.items ≡ w.items
  pub clock : sets_clock r.step ≡ false

-- two worlds have the same items and the same clock
pub record HaveSame (w v : World) : Type 0 where
  pub items : w.items ≡ v.items
  pub tick : w.tick ≡ v.tick

-- the world after a step
abbrev pub after : World → Repeat → World
after w r = (does w r.step r.times).after

-- what is printed in a run for the steps of a session
abbrev pub told : ℕ → World → List Repeat → List Out
told n w [] = []
told n w (r ∷ rs) = (if is_own n w r.step then (does w r.step r.times).outs else []) ++ told n (after w r) rs

-- a step of two runs: it is made in the first alone, in the second alone, or in both, where it is the session's own or
-- is shared by all, as an update is
pub data RunStep : Type 0 where
  First : Repeat → RunStep
  Second : Repeat → RunStep
  Own : Repeat → RunStep
  Shared : Repeat → RunStep

-- the steps of each run
abbrev pub firsts : List RunStep → List Repeat
firsts [] = []
firsts (First r ∷ ms) = r ∷ firsts ms
firsts (Second r ∷ ms) = firsts ms
firsts (Own r ∷ ms) = r ∷ firsts ms
firsts (Shared r ∷ ms) = r ∷ firsts ms

abbrev pub seconds : List RunStep → List Repeat
seconds [] = []
seconds (First r ∷ ms) = seconds ms
seconds (Second r ∷ ms) = r ∷ seconds ms
seconds (Own r ∷ ms) = r ∷ seconds ms
seconds (Shared r ∷ ms) = r ∷ seconds ms

-- a step is neither the session's nor on one of its connections
pub record IsElsewhere (n : ℕ) (connections : List ℕ) (w : World) (r : Repeat) : Type 0 where
  pub session : is_own n w r.step ≡ false
  pub apart : Each (λ c. connection_of r.step ≡ Some c → ⊥) connections

-- a step is the session's and on one of its connections; an add lacks slots in both worlds or in neither
pub record IsOwnOfBoth (n : ℕ) (connections : List ℕ) (w v : World) (r : Repeat) : Type 0 where
  pub session : is_own n w r.step ≡ true
  pub connection : ℕ
  pub is_in : Contains connections connection
  pub on : connection_of r.step ≡ Some connection
  pub room : lacks_slots w r.step ≡ lacks_slots v r.step

-- two runs, from two worlds, differ in what is done elsewhere: a step of one run alone leaves the items and sets no
-- clock, and after a shared one both have the same
abbrev pub DifferElsewhere : ℕ → List ℕ → World → World → List RunStep → Type 0
DifferElsewhere n connections w v [] = Unit {0}
DifferElsewhere n connections w v (First r ∷ ms) =
    IsElsewhere n connections w r × LeavesShared w r × DifferElsewhere n connections (after w r) v ms
DifferElsewhere n connections w v (Second r ∷ ms) =
    IsElsewhere n connections v r × LeavesShared v r × DifferElsewhere n connections w (after v r) ms
DifferElsewhere n connections w v (Own r ∷ ms) =
    IsOwnOfBoth n connections w v r × DifferElsewhere n connections (after w r) (after v r) ms
DifferElsewhere n connections w v (Shared r ∷ ms) =
    IsElsewhere n connections w r × IsElsewhere n connections v r × HaveSame (after w r) (after v r)
    × DifferElsewhere n connections (after w r) (after v r) ms
