-- What is true of each world: each client is at a state of its item that the item had, and never goes back (the
-- headline).
use Rattle.ls_world.specs.World.{World}
use Rattle.ls_value.specs.Each.{Each}
use Rattle.ls_lawful.specs.Lawful.{LawfulSession, IsSound, ClientsDecode}

-- each item is sound, and each session is lawful on them
pub record LawfulRecords (w : World) : Type 0 where
  pub items : Each IsSound w.items
  pub sessions : Each (LawfulSession w.items) w.sessions

-- the headline of a world: what each client decodes from the bytes of its lines is true of the items' histories
pub record Lawful (w : World) : Type 0 where
  pub records : LawfulRecords w
  pub clients : Each (ClientsDecode w.items) w.sessions
