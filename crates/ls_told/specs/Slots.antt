-- The live slots of a session, by the lines with which their subscriptions began (TLCP 2.1, subscriptions and reconf).
use Rattle.std.specs.Prelude.{◌≡◌, ◌==◌, ℕ, ◌+◌, List, [], ◌∷◌, true, false, Option, None, Some, is_some, slice_get}
use Rattle.std.specs.Prelude.{option_and_then, if◌then◌else◌}
use Rattle.ls_value.specs.Each.{Each}
use Rattle.ls_event.specs.declared.item.ItemDef.{ItemDef}
use Rattle.ls_event.specs.Joining.{rows_asked}
use Rattle.ls_record.specs.Acting.{places_among}
use Rattle.ls_record.specs.Lines.{Line, Begins, Ends, Configures, Answers, Tells}
use Rattle.ls_record.specs.Records.{LiveSlot, Session, is_alive, live_at, fields_in, shape_in}
use Rattle.ls_register.specs.Begun.{BegunSeen}
use Rattle.ls_register.specs.declared.begun.SlotBegun.{SlotBegun}
use Rattle.ls_register.specs.declared.told.Numbered.{Numbered as NumberedLine}

-- with what a subscription began that didn't end since: each entry stands beside its line, the newest first
abbrev pub begun_in : ℕ → List NumberedLine → List Line → Option BegunSeen
begun_in sub ns [] = None
begun_in sub [] (l ∷ lines) = None
begun_in sub (n ∷ ns) (Begins s items fields keys ∷ lines) = if s == sub then n.begun else begun_in sub ns lines
begun_in sub (n ∷ ns) (Ends s ∷ lines) = if s == sub then None else begun_in sub ns lines
begun_in sub (n ∷ ns) (Configures s frequency filtered ∷ lines) = begun_in sub ns lines
begun_in sub (n ∷ ns) (Answers outcome ∷ lines) = begun_in sub ns lines
begun_in sub (n ∷ ns) (Tells s rank tick c ∷ lines) = begun_in sub ns lines

-- its slot of a rank, from 0
abbrev pub slot_in : ℕ → ℕ → List NumberedLine → List Line → Option SlotBegun
slot_in sub rank ns lines = option_and_then (λ (b : BegunSeen). slice_get b.slots rank) (begun_in sub ns lines)

-- the greatest frequency that it has by its last CONF
abbrev pub configured : ℕ → List Line → Option ℕ
configured sub [] = None
configured sub (Begins s items fields keys ∷ lines) = if s == sub then None else configured sub lines
configured sub (Ends s ∷ lines) = if s == sub then None else configured sub lines
configured sub (Configures s frequency filtered ∷ lines) = if s == sub then frequency else configured sub lines
configured sub (Answers outcome ∷ lines) = configured sub lines
configured sub (Tells s rank tick c ∷ lines) = configured sub lines

-- a live slot is one with which a subscription of this schema began: of its item, with its mode, its size, its snapshot
-- and its base
pub record IsSettled (config : List ItemDef) (schema : List (List ℕ)) (t : SlotBegun) (v : LiveSlot) : Type 0 where
  pub item : v.item ≡ t.item
  pub places : v.wanted.places ≡ places_among (fields_in config v.item) schema
  pub snapshot : v.wanted.snapshot ≡ rows_asked t.snapshot
  pub plan : v.slot.plan ≡ record { mode = t.mode; shape = shape_in config v.item; size = t.size; base = t.base }

-- one for each, in order
abbrev pub AreSettled : List ItemDef → List (List ℕ) → List SlotBegun → List LiveSlot → Type 0
AreSettled config schema [] [] = Unit {0}
AreSettled config schema [] (v ∷ vs) = ⊥
AreSettled config schema (t ∷ ts) [] = ⊥
AreSettled config schema (t ∷ ts) (v ∷ vs) = IsSettled config schema t v × AreSettled config schema ts vs

-- a live slot is the one of its rank with which its subscription began, and has the frequency of its last CONF
pub record IsBegun (config : List ItemDef) (ns : List NumberedLine) (lines : List Line) (v : LiveSlot) : Type 0 where
  pub rank : ℕ
  pub begun : BegunSeen
  pub told : SlotBegun
  pub rank_is : v.rank ≡ rank + 1
  pub of : begun_in v.sub ns lines ≡ Some begun
  pub there : slice_get begun.slots rank ≡ Some told
  pub settled : IsSettled config begun.schema told v
  pub frequency : v.frequency ≡ configured v.sub lines

-- the live slots of a session are those with which its subscriptions began that didn't end, each of them; a session that
-- has ended has none
pub record HasSlots (config : List ItemDef) (ns : List NumberedLine) (s : Session) : Type 0 where
  pub begun : Each (IsBegun config ns s.board.lines) s.board.round
  pub all : is_alive s.life ≡ true → (sub rank : ℕ)
      → is_some (live_at sub (rank + 1) s.board.round) ≡ is_some (slot_in sub rank ns s.board.lines)
  pub left : is_alive s.life ≡ false → s.board.round ≡ []
