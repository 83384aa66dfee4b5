-- How far a turn asked the round of a session's slots, while the items' histories grow (this project's profile).
use Rattle.std.specs.Prelude.{◌≡◌, ◌≤◌, ◌<◌, ℕ, List, length, take, Option, true}
use Rattle.ls_value.specs.Each.{Each}
use Rattle.ls_event.specs.declared.item.ItemDef.{ItemDef}
use Rattle.ls_event.proofs.LongerCuts.{Reaches}
use Rattle.ls_record.specs.Records.{LiveSlot, Session, is_due, least_of, waits_of}
use Rattle.ls_register.specs.declared.told.Told.{Told}
use Rattle.ls_session.specs.declared.session.Ask.{Ask}
use Rattle.ls_session.specs.declared.session.Session.{Session as Kept}
use Rattle.ls_session.specs.Record.{Record, Question}
use Rattle.ls_told.specs.Keeping.{KeepsTold}
use Rattle.ls_told.specs.Seen.{Watched, SeesMore, items_seen, seen_of}
use Rattle.ls_told.specs.Turns.{HasNothing}
use Rattle.ls_live_session.specs.Groups.{SubSeen}
use Rattle.ls_live_session.specs.Lives.{LivesAs}
use Rattle.ls_live_session.specs.Taking.{IsAskedFrom}

-- a slot that was asked at a tick and had nothing to tell: it has every event that a caller had seen of its item, and
-- where it is due nothing of it is pending
pub record HadNothing (config : List ItemDef) (held ws : List Watched) (tick : ℕ) (s : Session) (v : LiveSlot) : Type 0 where
  pub declared : v.item < length config
  pub reaches : Reaches (seen_of ws v.item) v.slot
  pub fresh : length (seen_of held v.item) ≤ v.slot.last
  pub nothing : is_due tick s v ≡ true → HasNothing (seen_of ws v.item) v.slot

-- slots had nothing, and the first that waits is due at this tick, if one waits
pub record HadNone (config : List ItemDef) (held ws : List Watched) (tick : ℕ) (s : Session) (vs : List LiveSlot) (wait : Option ℕ)
    : Type 0 where
  pub each : Each (HadNothing config held ws tick s) vs
  pub first : wait ≡ least_of (waits_of tick (items_seen config ws) s vs)

-- those of a record's round that were asked at its tick
abbrev pub AskedInVain : List ItemDef → List Watched → List Watched → Record → Type 0
AskedInVain config held ws r = HadNone config held ws r.tick r.session (take r.asked r.session.board.round) r.wait

-- between the questions of a turn, since a caller had seen this of the items
pub record GoesRound (config : List ItemDef) (number : ℕ) (es : List Told) (held ws : List Watched) (subs : List SubSeen) (k : Kept)
    : Type 0 where
  pub r : Record
  pub lives : LivesAs config number es ws subs k r
  pub more : SeesMore held ws
  pub none : AskedInVain config held ws r

-- where a question stands
pub record AsksRound (config : List ItemDef) (number : ℕ) (es : List Told) (held ws : List Watched) (subs : List SubSeen) (k : Kept)
    (ask : Ask) (now : ℕ) : Type 0 where
  pub r : Record
  pub q : Question
  pub asked : IsAskedFrom config number es ws subs k r q ask now
  pub more : SeesMore held ws
  pub none : AskedInVain config held ws r

-- a session's whole round was asked at a tick, and no slot told anything
pub record QuietRound (config : List ItemDef) (number : ℕ) (es : List Told) (held ws : List Watched) (tick : ℕ) (wait : Option ℕ)
    : Type 0 where
  pub session : Session
  pub told : KeepsTold config number es ws session
  pub none : HadNone config held ws tick session session.board.round wait
