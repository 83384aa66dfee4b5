-- The updates of a history, each by itself, and its Clears (General Concepts, modes RAW and DISTINCT).
use Rattle.std.specs.Prelude.{ℕ, ◌+◌, ◌-◌, List, [], ◌∷◌, ◌++◌, length, map, drop, Option, None, Some, unwrap_or}
use Rattle.ls_value.specs.declared.row.Value.{Value}
use Rattle.ls_value.specs.declared.row.Value.TheVariants as value
use Rattle.ls_value.specs.declared.row.Cell.{Cell}
use Rattle.ls_value.specs.declared.row.Cell.TheVariants as cell
use Rattle.ls_event.specs.declared.event.Event.{Event}
use Rattle.ls_event.specs.declared.event.Event.TheVariants.{Update, Clear}
use Rattle.ls_event.specs.declared.event.Entry.{Entry}
use Rattle.ls_event.specs.declared.updates.OwnRow.{OwnRow}
use Rattle.ls_event.specs.History.{between}
use Rattle.ls_event.specs.declared.limits.TheConstants.{MOST_SNAPSHOT_ROWS}

-- the last n of a list
abbrev pub last_of : {A : Type 0} → ℕ → List A → List A
last_of n xs = drop (length xs - n) xs

-- the value that a cell says by itself: Same reads as null
abbrev pub own_value : Cell → Value
own_value cell.Same = value.Null
own_value cell.Null = value.Null
own_value (cell.Text t) = value.Text t

-- the row that an update's cells say by themselves
abbrev pub own_row : List Cell → List Value
own_row cells = map own_value cells

-- the event of number n, where it is an update
abbrev pub own_of : ℕ → Event → List OwnRow
own_of n (Update cells) = record { row = own_row cells; no = n } ∷ []
own_of n Clear = []

-- the updates among these entries, the first of which has number n + 1
abbrev pub own_from : ℕ → List Entry → List OwnRow
own_from n [] = []
own_from n (e ∷ es) = own_of (n + 1) e.event ++ own_from (n + 1) es

-- the updates numbered p + 1 to l
abbrev pub updates_between : List Entry → ℕ → ℕ → List OwnRow
updates_between h p l = own_from p (between h p l)

-- the number of the last Clear, after the event of number n
abbrev pub clear_of : Option ℕ → ℕ → Event → Option ℕ
clear_of c n (Update cells) = c
clear_of c n Clear = Some n

-- the number of the last Clear after these entries, the first of which has number n + 1
abbrev pub clear_from : Option ℕ → ℕ → List Entry → Option ℕ
clear_from c n [] = c
clear_from c n (e ∷ es) = clear_from (clear_of c (n + 1) e.event) (n + 1) es

-- the number of the last Clear among those numbered p + 1 to l
abbrev pub last_clear : List Entry → ℕ → ℕ → Option ℕ
last_clear h p l = clear_from None p (between h p l)

-- that number, or p where there is none
abbrev pub clear_or : List Entry → ℕ → ℕ → ℕ
clear_or h p l = unwrap_or (last_clear h p l) p

-- the state of a DISTINCT item after the first i entries: the own rows since the last Clear, as many of the last as are
-- kept
abbrev pub recent_rows : List Entry → ℕ → List (List Value)
recent_rows h i = last_of MOST_SNAPSHOT_ROWS (map (λ u. u.row) (updates_between h (clear_or h 0 i) i))
