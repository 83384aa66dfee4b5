-- What doors in memory hold, and how their calls go.
use Rattle.std.specs.Prelude.{ℕ, List, [], ◌∷◌, drop}
use Rattle.ls_outside.specs.Causes.{one_more}
use Rattle.ls_door.specs.Doors.{Ports}
use Rattle.ls_door.specs.declared.door.Heard.{Heard}
use Rattle.ls_door.specs.declared.door.Heard.TheVariants as heard
use Rattle.ls_door.specs.declared.door.Visit.{Visit}
use Rattle.ls_door.specs.declared.door.Visit.TheVariants as visit

-- a door in memory: how its calls to come go, its ports, and its counts of faults and of idle calls
pub record DoorState (C : Type 0) : Type 0 where
  pub listens : List Heard
  pub visits : List (Visit C)
  pub ports : Ports
  pub faults : ℕ
  pub idles : ℕ

-- how the next `listen` goes; past the list's end it has the ports that are asked for
abbrev pub next_heard : List Heard → ℕ → ℕ → Heard
next_heard [] port feed = heard.Ready port feed
next_heard (answer ∷ answers) port feed = answer

-- how the next `accept` goes; past the list's end nobody is there
abbrev pub next_visit : {C : Type 0} → List (Visit C) → Visit C
next_visit [] = visit.Idle
next_visit (answer ∷ answers) = answer

-- a door in memory after an answer of `listen`
abbrev pub door_heard : {C : Type 0} → DoorState C → Heard → DoorState C
door_heard d (heard.Ready port feed) =
    record d { listens = drop 1 d.listens; ports = record { port = port; feed = feed } }
door_heard d heard.Failed = record d { listens = drop 1 d.listens; faults = one_more d.faults }

-- a door in memory after an answer of `accept`
abbrev pub door_visited : {C : Type 0} → DoorState C → Visit C → DoorState C
door_visited d (visit.Client conn) = record d { visits = drop 1 d.visits }
door_visited d (visit.Feed conn) = record d { visits = drop 1 d.visits }
door_visited d visit.Idle = record d { visits = drop 1 d.visits; idles = one_more d.idles }
door_visited d visit.Failed = record d { visits = drop 1 d.visits; faults = one_more d.faults }
