use Rattle.std.proofs.Common.{◌≡◌, ◌+◌, ◌-◌, ◌≤◌, ◌++◌, length, replicate}
use Rattle.std.specs.List.{range_with_len}
use Rattle.std.specs.Vec.{vec_len, vec_capacity}
use Rattle.ls_turns.specs.Kept.{no_row}
use Rattle.ls_turns.proofs.rows.push_seats.Given as goal

-- so many were pushed, and there is room for the others
abbrev pub invariant-loop : goal.invariant-loop
invariant-loop l =
    record {
      rows : l.rows.items ≡ l.fn.rows.items ++ replicate l.counter no_row;
      free : l.free.items ≡ l.fn.free.items ++ range_with_len (length l.fn.rows.items) l.counter;
      rows_room : vec_len l.rows + (l.more - l.counter) ≤ vec_capacity l.rows;
      free_room : vec_len l.free + (l.more - l.counter) ≤ vec_capacity l.free;
      capacity : vec_capacity l.free ≡ vec_capacity l.fn.free;
    }
