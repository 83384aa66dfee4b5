-- The world of a script: all items with their whole histories, all sessions, and the connections (this project's
-- profile).
use Rattle.std.specs.Prelude.{ℕ, List, [], Option, codes}
use Rattle.ls_request.specs.declared.request.LinkKind.{LinkKind}
use Rattle.ls_record.specs.Records.{Item, Session}

-- a connection: its name, what it goes over, and the session and the epoch of its last create or bind; before the first
-- one there is no session, and the epoch is 0
pub record Connection : Type 0 where
  pub name : List ℕ
  pub link : LinkKind
  pub session : Option ℕ
  pub epoch : ℕ

-- the number of script lines so far, the adapter set's name, the last tick, and the items, the sessions and the
-- connections, each in the order in which they came
pub record World : Type 0 where
  pub line : ℕ
  pub set : List ℕ
  pub tick : ℕ
  pub items : List Item
  pub sessions : List Session
  pub connections : List Connection

-- the world before the first step
abbrev pub empty : World
empty = record { line = 0; set = codes "DEFAULT"; tick = 0; items = []; sessions = []; connections = [] }
