-- What a client knows by the lines that it was given, the newest of which stands first (TLCP 2.1, notifications).
use Rattle.std.specs.Prelude.{◌≡◌, ◌==◌, ◌≤◌, ◌-◌, ℕ, List, [], ◌∷◌, Bool, ◌&&◌, Option, None, Some, if◌then◌else◌}
use Rattle.ls_value.specs.declared.row.Value.{Value}
use Rattle.ls_line.specs.declared.line.Line.{Line}
use Rattle.ls_line.specs.declared.line.Line.TheVariants as line
use Rattle.ls_update.specs.Reading.{Reads, row_before, tokens_of}
use Rattle.ls_mirror.specs.declared.command.KeyPlaces.{KeyPlaces}

-- a subscription that has begun_as: how many items and fields it has, and in mode COMMAND where its key and command are
pub record Begun : Type 0 where
  pub items : ℕ
  pub fields : ℕ
  pub keyed : Option KeyPlaces

-- the places of the key and the command by what a SUBCMD tells, where they count from 1
abbrev pub places_of_subcmd : ℕ → ℕ → KeyPlaces
places_of_subcmd key command = record { key = key - 1; command = command - 1 }

-- the subscription of a number, if there is one, after one line more
abbrev pub begun_after : ℕ → Line → Option Begun → Option Begun
begun_after sub (line.SubOk s items fields) before =
    if s == sub then Some (record { items = items; fields = fields; keyed = None }) else before
begun_after sub (line.SubCmd s items fields key command) before =
    if s == sub
    then Some (record { items = items; fields = fields; keyed = Some (places_of_subcmd key command) })
    else before
begun_after sub (line.Unsub s) before = if s == sub then None else before
begun_after sub l before = before

-- the live subscription of a number: a UNSUB ends it
abbrev pub begun_as : ℕ → List Line → Option Begun
begun_as sub [] = None
begun_as sub (l ∷ lines) = begun_after sub l (begun_as sub lines)

-- what a line says of an item of a subscription, where a row's fields are still coded
pub data Heard : Type 0 where
  Coded : List ℕ → Heard
  Missed : ℕ → Heard
  Emptied : Heard
  Ended : Heard

-- what was heard of an item, with one thing more where it is of this item
abbrev pub heard_of : Bool → Heard → List Heard → List Heard
heard_of here one before = if here then one ∷ before else before

-- what was heard of an item after one line more: a subscription that begins or ends has heard nothing
abbrev pub heard_after : ℕ → ℕ → Line → List Heard → List Heard
heard_after sub item (line.SubOk s items fields) before = if s == sub then [] else before
heard_after sub item (line.SubCmd s items fields key command) before = if s == sub then [] else before
heard_after sub item (line.Unsub s) before = if s == sub then [] else before
heard_after sub item (line.U s i coded) before = heard_of ((s == sub) && (i == item)) (Coded coded) before
heard_after sub item (line.Ov s i lost) before = heard_of ((s == sub) && (i == item)) (Missed lost) before
heard_after sub item (line.Cs s i) before = heard_of ((s == sub) && (i == item)) Emptied before
heard_after sub item (line.Eos s i) before = heard_of ((s == sub) && (i == item)) Ended before
heard_after sub item l before = before

-- what was heard of an item of a subscription since it began
abbrev pub heard : ℕ → ℕ → List Line → List Heard
heard sub item [] = []
heard sub item (l ∷ lines) = heard_after sub item l (heard sub item lines)

-- what came by a line: an item's row, how many updates were lost, that the table is empty, or that the snapshot is over
pub data What : Type 0 where
  Row : List Value → What
  Lost : ℕ → What
  Cleared : What
  End : What

-- the row that came, or another one where none did
abbrev pub row_or : What → Option (List Value) → Option (List Value)
row_or (Row r) other = Some r
row_or (Lost k) other = other
row_or Cleared other = other
row_or End other = other

-- the last row that came; an empty table and lost updates leave it
abbrev pub last_row : List What → Option (List Value)
last_row [] = None
last_row (w ∷ whats) = row_or w (last_row whats)

-- what came is what was heard, decoded: each row of so many fields is read against the row that came before it
abbrev pub AreDecoded : ℕ → List Heard → List What → Type 0
AreDecoded fields [] [] = Unit {0}
AreDecoded fields (Coded coded ∷ hs) (Row row ∷ ws) = Reads (row_before fields (last_row ws)) (tokens_of coded) row
    × AreDecoded fields hs ws
AreDecoded fields (Missed lost ∷ hs) (Lost k ∷ ws) = (k ≡ lost) × AreDecoded fields hs ws
AreDecoded fields (Emptied ∷ hs) (Cleared ∷ ws) = AreDecoded fields hs ws
AreDecoded fields (Ended ∷ hs) (End ∷ ws) = AreDecoded fields hs ws
AreDecoded fields hs ws = ⊥

-- what came of an item of a live subscription by these lines
pub record HasCome (sub item : ℕ) (lines : List Line) (ws : List What) : Type 0 where
  pub subscription : Begun
  pub is_live : begun_as sub lines ≡ Some subscription
  pub first : 1 ≤ item
  pub last : item ≤ subscription.items
  pub decoded : AreDecoded subscription.fields (heard sub item lines) ws
