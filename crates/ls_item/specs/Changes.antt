-- What an update that isn't refused does to the keys of a COMMAND item.
use Rattle.std.specs.Prelude.{◌≡◌, List, true, false, None}
use Rattle.ls_value.specs.declared.row.Cell.{Cell}
use Rattle.ls_event.specs.declared.snapshot.KeyedRow.{KeyedRow}
use Rattle.ls_event.specs.Shapes.{Shape}
use Rattle.ls_event.specs.Keyed.{key_of, deletes, row_at}
use Rattle.ls_item.specs.declared.command.Change.{Change}
use Rattle.ls_item.specs.declared.command.Change.TheVariants as change
use Rattle.ls_item.specs.Keys.{IsAt, IsGap}

-- an update deletes a key or not, and its key stands at an index or is new
abbrev pub IsChange : Shape → List KeyedRow → List Cell → Change → Type 0
IsChange p ks cells change.Nothing = (deletes p cells ≡ true) × (row_at (key_of p cells) ks ≡ None)
IsChange p ks cells (change.Remove i) = (deletes p cells ≡ true) × IsAt (key_of p cells) ks i
IsChange p ks cells (change.Update i) = (deletes p cells ≡ false) × IsAt (key_of p cells) ks i
IsChange p ks cells (change.Insert i) = (deletes p cells ≡ false) × IsGap (key_of p cells) ks i
