-- The rule of a shared history, and what each step tells (this project's profile). One writer has the whole, each
-- reader a beginning of it, and the atomic word is its length.
use Rattle.std.specs.Prelude.{◌≡◌, ℕ, ◌≤◌, List, [], ◌∷◌, ◌++◌, length, true, false}
use Rattle.std.specs.Prelude.{if◌then◌else◌, ltb}
use mathlib.Core.Option.{Option, none, some}
use mathlib.Core.List.{IsPrefix}
use lib.ListN.{get_elem?}
use Rattle.atomic_table.specs.Table.{State, Me, Step}
use Rattle.ls_chron.specs.declared.view.View.{View}

module _ {E : Type 0} where
  abbrev pub writer : List E → View E
  writer xs = record { writes = true; list = xs; mine = []; theirs = [] }

  abbrev pub reader : List E → View E
  reader xs = record { writes = false; list = xs; mine = []; theirs = [] }

  -- a reader that knows as much
  abbrev pub copied : View E → View E
  copied v = reader v.list

  -- a token that knows nothing
  abbrev pub spent : View E
  spent = reader []

  -- the longer of two lists; the first, where they are as long
  abbrev pub longer : List E → List E → List E
  longer xs ys = if ltb (length xs) (length ys) then ys else xs

  -- a token that takes in another. The writer's list stays
  abbrev pub compares : View E → View E → View E
  compares v w = record {
    writes = v.writes;
    list = if v.writes then v.list else longer v.list w.list;
    mine = v.list;
    theirs = w.list;
  }

  -- what the rule says of one token
  abbrev pub Fits : ℕ → List E → ℕ → View E → Type 0
  Fits seat log by v =
      (v.writes ≡ true → (by ≡ seat) × (v.list ≡ log))
      × IsPrefix v.list log
      × IsPrefix v.mine log
      × IsPrefix v.theirs log

  -- there is one history, whose length is the word, and each token fits it
  abbrev pub Kept : State E (View E) → Type 0
  Kept s =
      (seat : ℕ) × (log : List E)
      × (s.words ≡ length log ∷ [])
      × ((by : ℕ) (v : View E) → get_elem? s.views by ≡ some v → Fits seat log by v)

  -- the entry that a step announces
  abbrev pub said : Option E → List E
  said none = []
  said (some x) = x ∷ []

  -- the writer's list has one entry more
  abbrev pub Appended : Step E → Me E (View E) → ℕ → Me E (View E) → Type 0
  Appended st m found n = n ≡ (writer (m.0.list ++ said st.said), m.1)

  -- the history has at least the token's entries
  abbrev pub Counted : Step E → Me E (View E) → ℕ → Me E (View E) → Type 0
  Counted st m found n = (n ≡ m) × (length m.0.list ≤ found)

  -- what was no longer is a beginning, and the token is as others again
  abbrev pub Compared : Step E → Me E (View E) → ℕ → Me E (View E) → Type 0
  Compared st m found n =
      (n ≡ (record { writes = m.0.writes; list = m.0.list; mine = []; theirs = [] }, m.1))
      × (length m.0.mine ≤ length m.0.list → IsPrefix m.0.mine m.0.list)
      × (length m.0.theirs ≤ length m.0.list → IsPrefix m.0.theirs m.0.list)
      × (m.0.writes ≡ true → IsPrefix m.0.theirs m.0.list)
