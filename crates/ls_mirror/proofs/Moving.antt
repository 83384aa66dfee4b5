-- One line takes a table to the next.
use Rattle.std.proofs.Common.{◌≡◌, ℕ, ◌+◌, List, true, Option, Result, Ok, Err, OnOk, refl, ap}
use Rattle.ls_value.specs.declared.row.Value.{Value}
use Rattle.ls_update.specs.Reading.{Reads, row_before, tokens_of}
use Rattle.ls_mirror.specs.declared.table.Table.{Table}
use Rattle.ls_mirror.specs.declared.command.KeyPlaces.{KeyPlaces}
use Rattle.ls_mirror.specs.Client.{Coded, Missed, Row, Lost}
use Rattle.ls_mirror.specs.Commands.{has_command}
use Rattle.ls_mirror.specs.Tables.{IsTableAfter, table_after, capped}

pub coded_moves : {X E : Type 0} (answer : Result X E) (fields : ℕ) (places : Option KeyPlaces) (old new : Table) (coded : List ℕ) (row : List Value)
    → Reads (row_before fields old.last) (tokens_of coded) row
    → OnOk answer ((has_command places row ≡ true) × (new ≡ table_after (Row row) places old)) → OnOk answer (IsTableAfter fields places (Coded coded) old new)
coded_moves (Ok x) fields places old new coded row reads h = (Row row, reads, h.1)
coded_moves (Err e) fields places old new coded row reads h = tt

pub missed_moves : (fields : ℕ) (places : Option KeyPlaces) (old : Table) (lost n : ℕ) → n ≡ capped (old.lost + lost)
    → IsTableAfter fields places (Missed lost) old (record { last = old.last; keys = old.keys; lost = n; updates = old.updates })
missed_moves fields places old lost n e = (Lost lost, refl, ap (λ (x : ℕ). record { last = old.last; keys = old.keys; lost = x; updates = old.updates }) e)
