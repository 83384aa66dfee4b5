-- What a caller has seen of a session, and watches of its items (this project's profile).
use Rattle.std.specs.Prelude.{◌≡◌, ◌≤◌, ◌<◌, ℕ, List, length, false, Some, slice_get, ◌==◌, ◌^◌, ◌⊎◌, set, IfSome}
use Rattle.atomic_table.specs.Seated.{TableId}
use Rattle.std.specs.Option.{option_map_or}
use mathlib.Core.List.{IsPrefix}
use Rattle.ls_event.specs.declared.event.Entry.{Entry}
use Rattle.ls_event.specs.declared.item.ItemDef.{ItemDef}
use Rattle.ls_record.specs.Records.{Session}
use Rattle.ls_register.specs.declared.told.Told.{Told}
use Rattle.ls_register.specs.declared.told.Told.TheVariants.{Gave}
use Rattle.ls_register.specs.Places.{Placed}
use Rattle.ls_told.specs.Seen.{Watched, Testified, FitsWatch}
use Rattle.ls_told.specs.Keeping.{KeepsTold}
use Rattle.ls_live.specs.Live.{Pass, HeldItem, IsWatchOf}
use Rattle.ls_register.specs.declared.made.Made.TheVariants as made
use Rattle.ls_sight.specs.Speaking.{Speaking}

-- the place shows the session of this number, whose history stands on this table
pub record ShowsIt (p : Placed) (number : ℕ) (table : TableId) : Type 0 where
  pub entry : slice_get p.list p.at ≡ Some (made.Session number table)

-- a line was given at a place of a history
pub record GaveAt (es : List Told) (place : ℕ) : Type 0 where
  pub epoch : ℕ
  pub text : List ℕ
  pub tick : ℕ
  pub entry : slice_get es place ≡ Some (Gave epoch text tick)

-- at each of a caller's places one was, and they are no more than the entries that the caller has seen
pub record IsGiven (t : Testified) : Type 0 where
  pub each : (k place : ℕ) → slice_get t.mine k ≡ Some place → GaveAt t.lines place
  pub few : length t.mine ≤ length t.lines

-- what is kept of a sight is right: its later list is no shorter, it has as few entries as a history may, its place is
-- that of the session, and a session that is kept is such
pub record IsSight (config : List ItemDef) (p : Placed) (t : Testified) : Type 0 where
  pub later : IsPrefix t.lines t.later
  pub given : IsGiven t
  pub few : length t.lines ≤ 2 ^ 61
  pub shows : ShowsIt p t.number t.table
  pub session : Session
  pub told : KeepsTold config t.number t.lines t.watches session

-- two watches are of one item
pub record IsOneItem (w v : Watched) : Type 0 where
  pub item : w.item ≡ v.item
  pub at : w.at ≡ v.at
  pub table : w.table ≡ v.table

-- as many watches, each of the same item
pub record AreOneItems (ws vs : List Watched) : Type 0 where
  pub count : length ws ≡ length vs
  pub each : (k : ℕ) (w v : Watched) → slice_get ws k ≡ Some w → slice_get vs k ≡ Some v → IsOneItem w v

-- those at a place are
abbrev pub IsOneAt : ℕ → List Watched → List Watched → Type 0
IsOneAt i ws vs = (w v : Watched) → slice_get ws i ≡ Some w → slice_get vs i ≡ Some v → IsOneItem w v

-- one watch has seen more of the same item
pub record SeesOn (old new : Watched) : Type 0 where
  pub item : new.item ≡ old.item
  pub at : new.at ≡ old.at
  pub table : new.table ≡ old.table
  pub list : IsPrefix old.list new.list

-- the watches at a place have then both seen what one of them had, and the others stay
pub record AgreeAt (i : ℕ) (ws vs xs ys : List Watched) : Type 0 where
  pub both : Watched
  pub mine : xs ≡ set ws i both
  pub theirs : ys ≡ set vs i both
  pub more : (w : Watched) → slice_get ws i ≡ Some w → SeesOn w both
  pub other : (v : Watched) → slice_get vs i ≡ Some v → SeesOn v both

-- a watch then has the longer of what it had seen and what a pass has, where both are of one item; else it stays
pub record MeetsPass (p : Pass) (w v : Watched) : Type 0 where
  pub sees : SeesOn w v
  pub one : (v.list ≡ w.list) ⊎ (v.list ≡ p.list)
  pub other : option_map_or (λ (q : Placed). w.at == q.at) p.place false ≡ false → v ≡ w

-- so does each of them
pub record MeetEach (p : Pass) (ws xs : List Watched) : Type 0 where
  pub count : length xs ≡ length ws
  pub each : (k : ℕ) (w v : Watched) → slice_get ws k ≡ Some w → slice_get xs k ≡ Some v → MeetsPass p w v

-- the watch at a place has then seen what a pass has, where both are of one item, and the others stay
pub record MeetsAt (i : ℕ) (ws xs : List Watched) (p : Pass) : Type 0 where
  pub met : Watched
  pub is : xs ≡ set ws i met
  pub more : (w : Watched) → slice_get ws i ≡ Some w → SeesOn w met
  pub has : IfSome p.place (λ q. met.at ≡ q.at → IsPrefix p.list met.list)
  pub meets : (w : Watched) → slice_get ws i ≡ Some w → MeetsPass p w met

-- what was seen by the watch at a place is a history of its item
abbrev pub FitsAt : List ItemDef → ℕ → List Watched → Type 0
FitsAt config i ws = (w : Watched) → slice_get ws i ≡ Some w → FitsWatch config w

-- each watch of the item at a place of the register has seen this
abbrev pub SeesOf : ℕ → List Entry → List Watched → Type 0
SeesOf at h ws = (k : ℕ) (w : Watched) → slice_get ws k ≡ Some w → w.at ≡ at → IsPrefix h w.list

-- a sight sees all that a session has
pub record ShowsAll (s : Speaking) (t : Testified) : Type 0 where
  pub number : t.number ≡ s.number
  pub table : t.table ≡ s.table
  pub lines : t.lines ≡ s.lines
  pub later : t.later ≡ s.lines
  pub watches : t.watches ≡ s.watches

-- no watch before a place is of an item
abbrev pub NoneBefore : List Watched → ℕ → ℕ → Type 0
NoneBefore ws k item = (j : ℕ) (u : Watched) → j < k → slice_get ws j ≡ Some u → u.item ≡ item → ⊥

-- the first watch of an item stands at a place, and is of this one
pub record IsFirst (ws : List Watched) (k number : ℕ) (i : HeldItem) : Type 0 where
  pub watch : Watched
  pub there : slice_get ws k ≡ Some watch
  pub of : IsWatchOf watch i
  pub number_is : watch.item ≡ number
  pub none : NoneBefore ws k number
