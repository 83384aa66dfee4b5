-- What was seen of a session and of the items of its slots, and that it is lawful (this project's profile).
use Rattle.std.specs.Prelude.{◌≡◌, ◌==◌, ℕ, ◌+◌, List, [], ◌∷◌, ◌++◌, length, true, Some, slice_get, if◌then◌else◌}
use mathlib.Core.List.{IsPrefix}
use Rattle.atomic_table.specs.Seated.{TableId}
use Rattle.ls_value.specs.Each.{Each}
use Rattle.ls_value.specs.Values.{are_distinct}
use Rattle.ls_event.specs.declared.event.Entry.{Entry}
use Rattle.ls_event.specs.declared.item.ItemDef.{ItemDef}
use Rattle.ls_event.specs.Publishes.{IsHistory}
use Rattle.ls_event.specs.Shapes.{shape_of, IsShape}
use Rattle.ls_event.specs.Textual.{Textual}
use Rattle.ls_lawful.specs.Lawful.{LawfulAlone}
use Rattle.ls_record.specs.Records.{Item, LiveSlot, Session, shape_in}
use Rattle.ls_register.specs.declared.made.Made.{Made}
use Rattle.ls_register.specs.declared.told.Told.{Told}
use Rattle.ls_register.specs.declared.told.Told.TheVariants.{Gave}
pub use Rattle.ls_register.specs.Watches.{Watched}
use Rattle.ls_told.specs.Spoken.{spoken_of}
use Rattle.ls_told.specs.Heard.{heard, CountsOn, EndsInTime}
use Rattle.ls_told.specs.Telling.{numbered_of, AreOf, AreOpen}
use Rattle.ls_told.specs.Slots.{HasSlots}

-- what was seen of an item of a number
abbrev pub seen_of : List Watched → ℕ → List Entry
seen_of [] n = []
seen_of (w ∷ ws) n = if w.item == n then w.list else seen_of ws n

-- the items as they are declared, with what was seen of them
abbrev pub items_from : ℕ → List ItemDef → List Watched → List Item
items_from n [] ws = []
items_from n (d ∷ ds) ws = record { definition = d; history = seen_of ws n } ∷ items_from (n + 1) ds ws

abbrev pub items_seen : List ItemDef → List Watched → List Item
items_seen config ws = items_from 0 config ws

-- an item is declared as it may be: it has a shape, and distinct fields
pub record IsDeclared (d : ItemDef) : Type 0 where
  pub shape : IsShape (shape_of d)
  pub distinct : are_distinct d.fields ≡ true

-- what was seen of an item is a history of its shape, whose texts are UTF-8
pub record FitsWatch (config : List ItemDef) (w : Watched) : Type 0 where
  pub history : IsHistory (shape_in config w.item) w.list
  pub textual : Textual w.list

-- more was seen of it
abbrev pub showing : List Entry → Watched → Watched
showing h w = record w { list = h }

-- an item is watched
abbrev pub IsWatched : List Watched → ℕ → Type 0
IsWatched ws n = (k : ℕ) × (w : Watched) × (slice_get ws k ≡ Some w) × (w.item ≡ n)

-- entries of the session of a number tell of this session, which is lawful on what was seen of the items of its slots:
-- what its clients decode from the texts of its numbered lines is true of the items' histories. Its slots are those with
-- which its subscriptions began, as the entries say.
pub record IsTold (config : List ItemDef) (number : ℕ) (lines : List Told) (ws : List Watched) (s : Session) : Type 0 where
  pub told : spoken_of s ≡ heard number lines
  pub lawful : LawfulAlone (items_seen config ws) s
  pub watched : Each (λ (v : LiveSlot). IsWatched ws v.item) s.board.round
  pub ends : EndsInTime number lines
  pub counts : CountsOn 0 lines
  pub subs : AreOpen s
  pub numbered : AreOf (numbered_of lines) s.board.lines
  pub slots : HasSlots config (numbered_of lines) s

-- what a caller has seen of the session of a number, and of the items of its slots: a beginning of the session's
-- history, a longer one, and the places in the first of the lines that were given to this caller; and what was seen of
-- the server's register
pub record Testified : Type 0 where
  pub number : ℕ
  pub table : TableId
  pub lines : List Told
  pub later : List Told
  pub mine : List ℕ
  pub watches : List Watched
  pub register : List Made

-- it is lawful: there is such a session
abbrev pub LawfulTold : List ItemDef → Testified → Type 0
LawfulTold config t = (s : Session) × IsTold config t.number t.lines t.watches s

-- of an item no less was seen, and of all items that were watched
abbrev pub SeesMore : List Watched → List Watched → Type 0
SeesMore old new =
    (k : ℕ) (w : Watched) → slice_get old k ≡ Some w
    → (v : Watched) × (slice_get new k ≡ Some v) × (v.item ≡ w.item) × (v.at ≡ w.at) × IsPrefix w.list v.list

-- a caller has seen more of the same session: each list that it had is a beginning of the one that it has, and what it
-- had of the session alone is a beginning of what it has of both
pub record Grows (old new : Testified) : Type 0 where
  pub number : new.number ≡ old.number
  pub table : new.table ≡ old.table
  pub lines : IsPrefix old.lines new.lines
  pub later : IsPrefix old.later new.lines
  pub both : new.later ≡ new.lines
  pub watches : SeesMore old.watches new.watches
  pub register : IsPrefix old.register new.register

-- the last entry of the new lines is the given text of an epoch, and its place is the caller's
pub record Sends (old new : Testified) (epoch : ℕ) (text : List ℕ) (tick : ℕ) : Type 0 where
  pub before : List Told
  pub lines : new.lines ≡ before ++ Gave epoch text tick ∷ []
  pub mine : new.mine ≡ old.mine ++ length before ∷ []
