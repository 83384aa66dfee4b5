-- What is kept of a round, and what it is seen as.
use Rattle.std.specs.Prelude.{◌≡◌, ℕ, ◌+◌, ◌<◌, ◌≤◌, List, map, length, get_or, slice_get, Option, Some}
use Rattle.ls_links.specs.Chains.{Link, Chains, Apart, In, list_of}
use Rattle.ls_turns.specs.declared.row.Row.{Row}
use Rattle.ls_turns.specs.declared.row.SlotName.{SlotName}
use Rattle.ls_turns.specs.declared.slot_ref.SlotRef.{SlotRef}
use Rattle.ls_turns.specs.Round.{Seat, Round}

-- the links, whose list 0 is the round; a row of each seat, by the values of the links; the seats that are free; how
-- many slots may join; and the greatest place that a slot had
pub record Table : Type 0 where
  pub chains : Chains
  pub rows : List Row
  pub free : List ℕ
  pub spare : ℕ
  pub places : ℕ

abbrev pub no_row : Row
no_row = record { slot = record { sub = 0; place = 0; item = 0; slot = 0 }; node = 0 }

abbrev pub row_of : List Row → ℕ → Row
row_of rows v = get_or rows v no_row

-- the seat of a link
abbrev pub seat_of : List Row → Link → Seat
seat_of rows l = record { node = l.node; value = l.value; slot = (row_of rows l.value).slot }

abbrev pub links_of : Table → List Link
links_of t = list_of t.chains 0

abbrev pub round_of : Table → Round
round_of t = record { seats = map (seat_of t.rows) (links_of t); spare = t.spare }

abbrev pub name_of : SlotRef → SlotName
name_of s = record { sub = s.sub; place = s.place }

-- a link's seat has its row, and the slot's name has the seat
pub record IsOwn (t : Table) (look : SlotName → Option ℕ) (l : Link) : Type 0 where
  pub within : l.value < length t.rows
  pub node : (row_of t.rows l.value).node ≡ l.node
  pub named : look (name_of (row_of t.rows l.value).slot) ≡ Some l.value
  pub low : (row_of t.rows l.value).slot.place ≤ t.places

-- a name's seat is a link's
pub record IsTold (t : Table) (n : SlotName) (v : ℕ) : Type 0 where
  pub link : Link
  pub linked : In (links_of t) link
  pub value : link.value ≡ v
  pub name : name_of (row_of t.rows v).slot ≡ n

-- a free seat is no link's
pub record IsFree (t : Table) (v : ℕ) : Type 0 where
  pub within : v < length t.rows
  pub unlinked : (l : Link) → In (links_of t) l → l.value ≡ v → ⊥

-- what is kept agrees
pub record IsKept (t : Table) (look : SlotName → Option ℕ) : Type 0 where
  pub lists : length t.chains.lists ≡ 1
  pub apart : Apart t.chains
  pub own : (l : Link) → In (links_of t) l → IsOwn t look l
  pub told : (n : SlotName) (v : ℕ) → look n ≡ Some v → IsTold t n v
  pub free : (v : ℕ) → In t.free v → IsFree t v
  pub once : (i j v : ℕ) → slice_get t.free i ≡ Some v → slice_get t.free j ≡ Some v → i ≡ j

-- there is room for the spare slots: in the links, among the names, and among the seats; and for each seat as a free
-- one
pub record HasRoom (t : Table) (names most : ℕ) : Type 0 where
  pub links : t.spare ≤ t.chains.spare
  pub names_spare : t.spare ≤ names
  pub seats : t.spare ≤ length t.free
  pub all : length t.free + length (links_of t) ≡ length t.rows
  pub free_room : length t.rows ≤ most

pub record IsSound (t : Table) (look : SlotName → Option ℕ) (names most : ℕ) : Type 0 where
  pub kept : IsKept t look
  pub room : HasRoom t names most
