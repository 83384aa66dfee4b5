-- Values, rows and cells: what an update makes of a row, and what a schema takes of it (TLCP 2.1, update fields).
use Rattle.std.specs.Prelude.{◌==◌, ℕ, ◌+◌, List, [], ◌∷◌, length, map, replicate, slice_index_or, sum_by, Bool, true}
use Rattle.std.specs.Prelude.{false, ◌&&◌, Option, Some, None, option_map, is_none, if◌then◌else◌}
use Rattle.ls_value.specs.declared.row.Value.{Value}
use Rattle.ls_value.specs.declared.row.Value.TheVariants as value
use Rattle.ls_value.specs.declared.row.Cell.{Cell}
use Rattle.ls_value.specs.declared.row.Cell.TheVariants as cell

-- the value of a field after an update
abbrev pub kept_or_taken : Value → Cell → Value
kept_or_taken v cell.Same = v
kept_or_taken v cell.Null = value.Null
kept_or_taken v (cell.Text t) = value.Text t

-- the row after an update
abbrev pub applied : List Value → List Cell → List Value
applied [] cells = []
applied (v ∷ row) [] = v ∷ row
applied (v ∷ row) (c ∷ cells) = kept_or_taken v c ∷ applied row cells

-- the row of n nulls
abbrev pub nulls : ℕ → List Value
nulls n = replicate n value.Null

-- the value at a place
abbrev pub value_at : List Value → ℕ → Value
value_at row place = slice_index_or row place value.Null

-- the values at the places
abbrev pub projected : List Value → List ℕ → List Value
projected row places = map (value_at row) places

-- the cell at a place
abbrev pub cell_at : List Cell → ℕ → Cell
cell_at cells place = slice_index_or cells place cell.Same

-- the cells at the places
abbrev pub projected_cells : List Cell → List ℕ → List Cell
projected_cells cells places = map (cell_at cells) places

-- the bytes of a value's text
abbrev pub weight_of_value : Value → ℕ
weight_of_value value.Null = 0
weight_of_value (value.Text t) = length t

-- the bytes of a row's texts
abbrev pub weight_of : List Value → ℕ
weight_of row = sum_by weight_of_value row

-- the bytes of a cell's text
abbrev pub weight_of_cell : Cell → ℕ
weight_of_cell cell.Same = 0
weight_of_cell cell.Null = 0
weight_of_cell (cell.Text t) = length t

-- whether two texts are equal, byte by byte
abbrev pub text_eq : List ℕ → List ℕ → Bool
text_eq [] [] = true
text_eq [] (y ∷ ys) = false
text_eq (x ∷ xs) [] = false
text_eq (x ∷ xs) (y ∷ ys) = (x == y) && text_eq xs ys

-- whether two values are equal
abbrev pub value_eq : Value → Value → Bool
value_eq value.Null value.Null = true
value_eq value.Null (value.Text t) = false
value_eq (value.Text s) value.Null = false
value_eq (value.Text s) (value.Text t) = text_eq s t

-- whether two rows are equal, value by value
abbrev pub row_eq : List Value → List Value → Bool
row_eq [] [] = true
row_eq [] (y ∷ ys) = false
row_eq (x ∷ xs) [] = false
row_eq (x ∷ xs) (y ∷ ys) = value_eq x y && row_eq xs ys

-- the first place of a name
abbrev pub place_of : List (List ℕ) → List ℕ → Option ℕ
place_of [] name = None
place_of (n ∷ ns) name = if text_eq n name then Some 0 else option_map (λ i. i + 1) (place_of ns name)

-- whether no name stands twice
abbrev pub are_distinct : List (List ℕ) → Bool
are_distinct [] = true
are_distinct (n ∷ ns) = is_none (place_of ns n) && are_distinct ns
