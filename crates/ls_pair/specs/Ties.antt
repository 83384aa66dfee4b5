-- The rule of a tie, and what each step tells (this project's profile). There is one pair, or one side of each kind,
-- with equal lists.
use Rattle.std.specs.Prelude.{◌≡◌, ℕ, List, [], ◌∷◌, ◌++◌, Bool, true, false}
use mathlib.Core.Option.{Option, none, some}
use lib.ListN.{get_elem?}
use Rattle.atomic_table.specs.Table.{State, Me, Step}
use Rattle.ls_pair.specs.declared.side.Role.{Role}
use Rattle.ls_pair.specs.declared.side.Role.TheVariants.{Pair, Item, Session, Spent}
use Rattle.ls_pair.specs.declared.side.Side.{Side}

module _ {E : Type 0} where
  abbrev pub side : Role → List E → Side E
  side role xs = record { role = role; list = xs; items = []; sessions = [] }

  abbrev pub pair : List E → Side E
  pair xs = side Pair xs

  abbrev pub item_of : Side E → Side E
  item_of v = side Item v.list

  abbrev pub session_of : Side E → Side E
  session_of v = side Session v.list

  abbrev pub spent : Side E
  spent = side Spent []

  abbrev pub paired : Side E → Side E → Side E
  paired v w = record { role = Pair; list = v.list; items = v.list; sessions = w.list }

  -- the list of the side that a badge has
  abbrev pub list_of : List (Side E) → List E
  list_of [] = []
  list_of (v ∷ vs) = v.list

  -- what the rule says of one side: the pair, or the item's side, is the seat a, and the session's side the seat b
  abbrev pub Knows : Bool → ℕ → ℕ → List E → ℕ → Side E → Role → Type 0
  Knows whole a b list by v Pair = (whole ≡ true) × (by ≡ a) × (v.list ≡ list) × (v.items ≡ v.sessions)
  Knows whole a b list by v Item = (whole ≡ false) × (by ≡ a) × (v.list ≡ list)
  Knows whole a b list by v Session = (whole ≡ false) × (by ≡ b) × (v.list ≡ list)
  Knows whole a b list by v Spent = Unit {0}

  abbrev pub Fits : Bool → ℕ → ℕ → List E → ℕ → Side E → Type 0
  Fits whole a b list by v = Knows whole a b list by v v.role

  -- there is one pair, or one side of each kind, with one list. The word says nothing
  abbrev pub Tied : State E (Side E) → Type 0
  Tied s =
      (whole : Bool) × (a : ℕ) × (b : ℕ) × (list : List E)
      × ((by : ℕ) (v : Side E) → get_elem? s.views by ≡ some v → Fits whole a b list by v)

  -- the two lists were equal
  abbrev pub Agreed : Step E → Me E (Side E) → ℕ → Me E (Side E) → Type 0
  Agreed st m found n = (n ≡ (pair m.0.list, m.1)) × (m.0.items ≡ m.0.sessions)

  -- the entry that a step announces
  abbrev pub said : Option E → List E
  said none = []
  said (some x) = x ∷ []

  -- the pair's list has one cut more
  abbrev pub Passed : Step E → Me E (Side E) → ℕ → Me E (Side E) → Type 0
  Passed st m found n = n ≡ (pair (m.0.list ++ said st.said), m.1)
