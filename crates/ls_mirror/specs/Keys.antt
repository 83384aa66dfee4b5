-- Rows by key, as a finite map in byte order of the keys.
use Rattle.std.specs.Prelude.{ℕ, List, map, String, string_bytes}
use Rattle.std.specs.BTreeMap.{BTreeMap}
use Rattle.std.specs.FinMap as finite
use Rattle.std.specs.Ordering.{nat_cmp}
use Rattle.std.specs.Cmp.Lexicographic.{slice_cmp}
use Rattle.ls_value.specs.declared.row.Value.{Value}

-- a row for each key
abbrev pub KeyTable : Type 0
KeyTable = finite.FinMap (slice_cmp nat_cmp) (List Value)

-- the bytes of each key, with its row
abbrev pub by_bytes : {Y : Type 0} → List (String Y × List Value) → List (List ℕ × List Value)
by_bytes es = map (λ e. (string_bytes e.0, e.1)) es

-- the finite map of a tree
abbrev pub rows_by_key : {Y : Type 0} → BTreeMap (String Y) (List Value) → KeyTable
rows_by_key rows = finite.from_entries (by_bytes rows.entries)
