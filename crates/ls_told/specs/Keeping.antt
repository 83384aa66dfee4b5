-- What is kept of a session, so that what was told of it is lawful: its items are sound, its record is lawful on them, and
-- its lines can be written and read again.
use Rattle.std.specs.Prelude.{◌≡◌, ℕ, List}
use Rattle.ls_value.specs.Each.{Each}
use Rattle.ls_event.specs.declared.item.ItemDef.{ItemDef}
use Rattle.ls_lawful.proofs.Heard.{HasNoOutcome}
use Rattle.ls_lawful.proofs.OneSession.{KeptAlone}
use Rattle.ls_record.specs.Records.{LiveSlot, Session}
use Rattle.ls_register.specs.declared.told.Told.{Told}
use Rattle.ls_told.specs.Spoken.{spoken_of}
use Rattle.ls_told.specs.Heard.{heard, CountsOn, EndsInTime}
use Rattle.ls_told.specs.Telling.{numbered_of, AreOf, AreOpen}
use Rattle.ls_told.specs.Slots.{HasSlots}
use Rattle.ls_told.specs.Seen.{Watched, items_seen, IsWatched}

pub record KeepsTold (config : List ItemDef) (number : ℕ) (lines : List Told) (ws : List Watched) (s : Session) : Type 0 where
  pub told : spoken_of s ≡ heard number lines
  pub alone : KeptAlone (items_seen config ws) s
  pub none : HasNoOutcome s.board.lines
  pub watched : Each (λ (v : LiveSlot). IsWatched ws v.item) s.board.round
  pub ends : EndsInTime number lines
  pub counts : CountsOn 0 lines
  pub subs : AreOpen s
  pub numbered : AreOf (numbered_of lines) s.board.lines
  pub slots : HasSlots config (numbered_of lines) s
