-- When a session's record is lawful on its items: each client is at a state of its item that the item had, and never
-- goes back.
use Rattle.std.specs.Prelude.{◌≡◌, ◌+◌, ◌-◌, ◌<◌, ◌≤◌, length, ℕ, List, [], ◌∷◌, true, false, Option, None, Some}
use Rattle.ls_value.specs.Values.{projected, are_distinct}
use Rattle.ls_event.specs.declared.event.Entry.{Entry}
use Rattle.ls_event.specs.declared.event.Mode.{Mode}
use Rattle.ls_event.specs.Shapes.{shape_of, IsShape}
use Rattle.ls_event.specs.History.{merged}
use Rattle.ls_event.specs.Publishes.{IsHistory}
use Rattle.ls_event.specs.Slots.{Plan, Slot}
use Rattle.ls_mirror.specs.Client.{What, Row, HasCome}
use Rattle.ls_record.specs.Came.{Came, whats}
use Rattle.ls_line.specs.declared.line.Line.{Line as WireLine}
use Rattle.ls_line.specs.Reading.{Says}
use Rattle.ls_record.specs.Lines.{Line, came, last_row, texts}
use Rattle.ls_record.specs.Cutting.{Wanted}
use Rattle.ls_lawful.specs.RawMode.{LawfulRaw}
use Rattle.ls_lawful.specs.DistinctMode.{LawfulDistinct}
use Rattle.ls_lawful.specs.CommandMode.{LawfulCommand}
use Rattle.ls_lawful.specs.ClientKeys.{KeysOf}
use Rattle.ls_record.specs.Records.{Session, Board, Stream, Item, LiveSlot, history_of, shape_at}
use Rattle.ls_value.specs.declared.limits.TheConstants.{GREATEST_ORDINAL}
use Rattle.ls_value.specs.Each.{Each}
use Rattle.ls_record.specs.Apart.{Apart}
use Rattle.ls_event.specs.declared.event.Mode.TheVariants as mode

-- a number of an event behind which the item's state may be told to a slot that joined behind so many events: that of a
-- later one, and with a snapshot that of the last one before, where there was one
abbrev pub MayTell : Option ℕ → ℕ → ℕ → Type 0
MayTell None base n = base < n
MayTell (Some asked) base n = (0 < n) × (base ≤ n)

-- a line of mode MERGE: the item's state at a number among the last of the slot's size then, and at none before the
-- subscription
pub record IsMergeLine (p : Plan) (w : Wanted) (h : List Entry) (c : Came) : Type 0 where
  pub row : c.what ≡ Row (projected (merged p.shape.fields h c.upto) w.places)
  pub reached : c.upto ≤ c.at
  pub recent : c.at - p.size < c.upto
  pub since : MayTell w.snapshot p.base c.upto
  pub within : c.at ≤ length h

-- each is such a line, and their numbers rise, all below a top
abbrev pub MergeLines : Plan → Wanted → List Entry → ℕ → List Came → Type 0
MergeLines p w h top [] = Unit {0}
MergeLines p w h top (c ∷ cs) = (c.upto < top) × IsMergeLine p w h c × MergeLines p w h c.upto cs

-- a slot of mode MERGE: no state that it is still to tell is one before the subscription. Before its first line the
-- client has nothing of it, and where there is a state to tell, something is pending; from then on the last row that
-- came is the item's state at the slot's cursor
pub record LawfulMerge (h : List Entry) (w : Wanted) (s : Slot) (cs : List Came) : Type 0 where
  pub some : 0 < s.plan.size
  pub joined : s.plan.base ≤ s.last
  pub begun : MayTell w.snapshot s.plan.base (s.cursor + 1)
  pub behind : s.cursor ≤ s.last
  pub within : s.last ≤ length h
  pub before : s.has_started ≡ false → cs ≡ []
  pub waits : s.has_started ≡ false → MayTell w.snapshot s.plan.base s.last → s.cursor < s.last
  pub row : s.has_started ≡ true → last_row cs ≡ Some (projected (merged s.plan.shape.fields h s.cursor) w.places)
  pub lines : MergeLines s.plan w h (s.cursor + 1) cs

-- a slot of a mode, and what came to its client
abbrev pub LawfulOf : Mode → List Entry → Wanted → Slot → List Came → Type 0
LawfulOf mode.Merge h w s cs = LawfulMerge h w s cs
LawfulOf mode.Raw h w s cs = LawfulRaw h w s cs
LawfulOf mode.Distinct h w s cs = LawfulDistinct h w s cs
LawfulOf mode.Command h w s cs = LawfulCommand h w s cs

-- of its own mode
abbrev pub LawfulSlot : List Entry → Wanted → Slot → List Came → Type 0
LawfulSlot h w s cs = LawfulOf s.plan.mode h w s cs

-- a slot is of a declared item and has its shape, and what came to the slot's client, by all lines of the session, is
-- lawful on the item's whole history
pub record LawfulLive (items : List Item) (lines : List Line) (v : LiveSlot) : Type 0 where
  pub declared : v.item < length items
  pub shape : v.slot.plan.shape ≡ shape_at items v.item
  pub came : LawfulSlot (history_of items v.item) v.wanted v.slot (came v.sub v.rank lines)

-- a session's slots stand apart, and each is lawful
pub record LawfulBoard (items : List Item) (b : Board) : Type 0 where
  pub apart : Apart b.round
  pub slots : Each (LawfulLive items b.lines) b.round

-- the numbers given on a stream follow its beginning without a gap
abbrev pub Follows : ℕ → List ℕ → Type 0
Follows from [] = Unit {0}
Follows from (n ∷ ns) = (n ≡ from + length ns + 1) × Follows from ns

-- those of a stream do, and are of numbered lines
pub record LawfulStream (lines : ℕ) (t : Stream) : Type 0 where
  pub follows : Follows t.from t.given
  pub numbered : t.from + length t.given ≤ lines

-- each stream that a session ever had is lawful, and the last number given is that of the newest
abbrev pub LawfulStreams : ℕ → ℕ → List Stream → Type 0
LawfulStreams lines sent [] = ⊥
LawfulStreams lines sent (t ∷ ts) = (sent ≡ t.from + length t.given) × Each (LawfulStream lines) (t ∷ ts)

-- a session's board is lawful, no more lines were given than numbered, none is given up that wasn't given, and each
-- stream has its own without a gap
pub record LawfulSession (items : List Item) (s : Session) : Type 0 where
  pub board : LawfulBoard items s.board
  pub sent : s.sent ≤ length s.board.lines
  pub given_up : s.given_up ≤ s.sent
  pub streams : LawfulStreams (length s.board.lines) s.sent s.streams

-- an item has a shape (as many fields as it may have, and in kind COMMAND a key and a command apart), fields with
-- distinct names, and a history
pub record IsSound (i : Item) : Type 0 where
  pub shape : IsShape (shape_of i.definition)
  pub distinct : are_distinct i.definition.fields ≡ true
  pub history : IsHistory (shape_of i.definition) i.history

-- texts are read as lines
abbrev pub AreRead : List (List ℕ) → List WireLine → Type 0
AreRead [] [] = Unit {0}
AreRead [] (l ∷ ls) = ⊥
AreRead (text ∷ texts) [] = ⊥
AreRead (text ∷ texts) (l ∷ ls) = Says text l × AreRead texts ls

-- what came of the item of a slot is what a client decodes from the texts of the lines: its subscription has the fields
-- of the schema, no more than a line can tell, and in mode COMMAND the rows by key that it makes of it are the item's
pub record Decodes (h : List Entry) (v : LiveSlot) (all : List (List ℕ)) (ws : List What) : Type 0 where
  pub lines : List WireLine
  pub read : AreRead all lines
  pub came : HasCome v.sub v.rank lines ws
  pub schema : came.subscription.fields ≡ length v.wanted.places
  pub most : length v.wanted.places ≤ GREATEST_ORDINAL
  pub keys : KeysOf v.slot.plan.mode h v.wanted v.slot came.subscription.keyed ws

-- a slot's client decodes what the records say came to it
abbrev pub ClientDecodes : List Item → List Line → LiveSlot → Type 0
ClientDecodes items lines v = Decodes (history_of items v.item) v (texts lines) (whats (came v.sub v.rank lines))

-- of each slot of a session, what the records say came to its client is what the client decodes from the texts of all
-- numbered lines
abbrev pub ClientsDecode : List Item → Session → Type 0
ClientsDecode items s = Each (ClientDecodes items s.board.lines) s.board.round

-- a session is lawful by itself, whatever others there are: its items are sound, its record is lawful on them, and what
-- its clients decode from the bytes of its lines is true of the items' histories
pub record LawfulAlone (items : List Item) (s : Session) : Type 0 where
  pub sound : Each IsSound items
  pub session : LawfulSession items s
  pub clients : ClientsDecode items s
