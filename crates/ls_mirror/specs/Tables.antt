-- The table that a client keeps of an item: the last row, the rows by key, and two counts (TLCP 2.1, notifications).
use Rattle.std.specs.Prelude.{◌≡◌, ℕ, ◌+◌, ◌^◌, ◌-◌, min, List, sum_by, Option, None, Some}
use Rattle.std.specs.FinMap as finite
use Rattle.ls_value.specs.declared.row.Value.{Value}
use Rattle.ls_update.specs.Reading.{Reads, row_before, tokens_of}
use Rattle.ls_mirror.specs.declared.table.Table.{Table}
use Rattle.ls_mirror.specs.declared.table.Heard.{Heard as LentHeard}
use Rattle.ls_mirror.specs.declared.table.Heard.TheVariants as lent
use Rattle.ls_mirror.specs.declared.command.KeyPlaces.{KeyPlaces}
use Rattle.ls_mirror.specs.Client.{Heard, Coded, Missed, Emptied, Ended, What, Row, Lost, Cleared, End}
use Rattle.ls_mirror.specs.Client.{last_row}
use Rattle.ls_mirror.specs.Commands.{keys_after, key_table}

-- how many updates were lost by a line
abbrev pub lost_by : What → ℕ
lost_by (Row row) = 0
lost_by (Lost k) = k
lost_by Cleared = 0
lost_by End = 0

-- how many updates a line brought
abbrev pub updates_by : What → ℕ
updates_by (Row row) = 1
updates_by (Lost k) = 0
updates_by Cleared = 0
updates_by End = 0

-- a count, or 2^64 - 1 where that is less
abbrev pub capped : ℕ → ℕ
capped n = min n (2 ^ 64 - 1)

-- how many updates were lost
abbrev pub lost_count : List What → ℕ
lost_count whats = capped (sum_by lost_by whats)

-- how many updates came
abbrev pub update_count : List What → ℕ
update_count whats = capped (sum_by updates_by whats)

-- the table of what came
abbrev pub table_of : Option KeyPlaces → List What → Table
table_of places whats = record {
  last = last_row whats;
  keys = key_table places whats;
  lost = lost_count whats;
  updates = update_count whats;
}

-- a table after one line more
abbrev pub table_after : What → Option KeyPlaces → Table → Table
table_after (Row row) places t = record {
  last = Some row;
  keys = keys_after (Row row) places t.keys;
  lost = t.lost;
  updates = capped (t.updates + 1);
}
table_after (Lost k) places t = record {
  last = t.last;
  keys = t.keys;
  lost = capped (t.lost + k);
  updates = t.updates;
}
table_after Cleared places t = record { last = t.last; keys = finite.empty; lost = t.lost; updates = t.updates }
table_after End places t = t

-- a table of which nothing came
abbrev pub blank_table : Table
blank_table = record { last = None; keys = finite.empty; lost = 0; updates = 0 }

-- what is heard, with the bytes that the program lends
abbrev pub heard_value : LentHeard → Heard
heard_value (lent.Coded coded) = Coded coded.now
heard_value (lent.Missed lost) = Missed lost
heard_value lent.Emptied = Emptied
heard_value lent.Ended = Ended

-- what is heard, decoded after the last row
abbrev pub IsDecoded : ℕ → Option (List Value) → Heard → What → Type 0
IsDecoded fields last (Coded coded) (Row row) = Reads (row_before fields last) (tokens_of coded) row
IsDecoded fields last (Coded coded) (Lost k) = ⊥
IsDecoded fields last (Coded coded) Cleared = ⊥
IsDecoded fields last (Coded coded) End = ⊥
IsDecoded fields last (Missed lost) (Row row) = ⊥
IsDecoded fields last (Missed lost) (Lost k) = k ≡ lost
IsDecoded fields last (Missed lost) Cleared = ⊥
IsDecoded fields last (Missed lost) End = ⊥
IsDecoded fields last Emptied (Row row) = ⊥
IsDecoded fields last Emptied (Lost k) = ⊥
IsDecoded fields last Emptied Cleared = Unit {0}
IsDecoded fields last Emptied End = ⊥
IsDecoded fields last Ended (Row row) = ⊥
IsDecoded fields last Ended (Lost k) = ⊥
IsDecoded fields last Ended Cleared = ⊥
IsDecoded fields last Ended End = Unit {0}

-- what is heard takes a table to the next
abbrev pub IsTableAfter : ℕ → Option KeyPlaces → Heard → Table → Table → Type 0
IsTableAfter fields places h old new = (w : What) × IsDecoded fields old.last h w × (new ≡ table_after w places old)
