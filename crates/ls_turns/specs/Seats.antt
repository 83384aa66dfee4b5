-- The seats of slots by their names.
use Rattle.std.specs.Prelude.{ℕ, Bool, ◌==◌, ◌&&◌, Option}
use Rattle.indexmap.specs.IndexMap.{IndexMap, get}
use Rattle.ls_turns.specs.declared.row.SlotName.{SlotName}

-- whether two names are one
abbrev pub is_name : SlotName → SlotName → Bool
is_name a b = (a.sub == b.sub) && (a.place == b.place)

-- the seat of a name
abbrev pub seat_named : {S : Type 0} → IndexMap SlotName ℕ S → SlotName → Option ℕ
seat_named m n = get is_name m n
