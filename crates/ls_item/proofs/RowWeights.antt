-- What rows weigh.
use Rattle.std.proofs.Common.{◌≡◌, ℕ, ◌+◌, ◌<◌, ◌≤◌, List, [], ◌∷◌, length, take, drop, set, refl, arith, zero, suc}
use Rattle.std.proofs.Common.{sum_by}
use Rattle.std.proofs.lemmas.List.Sums.{sum_by-cons}
use Rattle.ls_value.specs.declared.row.Value.{Value}
use Rattle.ls_value.specs.declared.row.Value.TheVariants as value
use Rattle.ls_value.specs.declared.row.Cell.{Cell}
use Rattle.ls_value.specs.declared.row.Cell.TheVariants as cell
use Rattle.ls_value.specs.Values.{applied, nulls, kept_or_taken, weight_of, weight_of_value, weight_of_cell}
use Rattle.ls_event.specs.Updates.{own_row, own_value}

pub nulls_weigh_nothing : (n : ℕ) → weight_of (nulls n) ≡ 0
nulls_weigh_nothing zero = refl
nulls_weigh_nothing (suc n) = nulls_weigh_nothing n

-- a row weighs what its first value and the rest do
first_weight : (v : Value) (row : List Value) → weight_of (v ∷ row) ≡ weight_of_value v + weight_of row
first_weight v row = sum_by-cons weight_of_value v row

first_cell_weight : (c : Cell) (cells : List Cell) → sum_by weight_of_cell (c ∷ cells)
    ≡ weight_of_cell c + sum_by weight_of_cell cells
first_cell_weight c cells = sum_by-cons weight_of_cell c cells

-- a row without one of its values weighs what the values before it and behind it do
pub weight_without : (row : List Value) (cells : List Cell) (place : ℕ) → length row ≡ length cells → place < length row
    → weight_of (set (applied row cells) place value.Null) ≡ weight_of (applied (take place row) (take place cells)) +
    weight_of (applied (drop (place + 1) row) (drop (place + 1) cells))
weight_without [] cells place same within = absurd (omega (arith, within))
weight_without (v ∷ row) [] place same within = absurd (omega (arith, same))
weight_without (v ∷ row) (c ∷ cells) zero same within = first_weight value.Null (applied row cells)
weight_without (v ∷ row) (c ∷ cells) (suc place) same within =
    let rest = weight_without row cells place (omega (arith, same)) (omega (arith, within)) in
    let now : weight_of (applied (v ∷ take place row) (c ∷ take place cells))
    ≡ weight_of_value (kept_or_taken v c) + weight_of (applied (take place row) (take place cells)) =
    first_weight (kept_or_taken v c) (applied (take place row) (take place cells)) in
    let all = first_weight (kept_or_taken v c) (set (applied row cells) place value.Null) in
    let e : suc place + 1 ≡ suc (place + 1) = omega arith in
    rw e (omega (arith, all, now, rest))

own_value_weight : (c : Cell) → weight_of_value (own_value c) ≡ weight_of_cell c
own_value_weight cell.Same = refl
own_value_weight cell.Null = refl
own_value_weight (cell.Text t) = refl

-- own rows weigh what their events do
pub own_row_weight : (cells : List Cell) → weight_of (own_row cells) ≡ sum_by weight_of_cell cells
own_row_weight [] = refl
own_row_weight (c ∷ cells) =
    omega (
      arith,
      own_value_weight c,
      first_weight (own_value c) (own_row cells),
      first_cell_weight c cells,
      own_row_weight cells,
    )

-- a row weighs no more with one of its values made null
set_null_weight : (row : List Value) (place : ℕ) → weight_of (set row place value.Null) ≤ weight_of row
set_null_weight [] place = omega arith
set_null_weight (v ∷ row) zero = omega (arith, first_weight v row, first_weight value.Null row)
set_null_weight (v ∷ row) (suc place) =
    omega (arith, first_weight v row, first_weight v (set row place value.Null), set_null_weight row place)

taken_weight : (c : Cell) → weight_of_value (kept_or_taken value.Null c) ≡ weight_of_cell c
taken_weight cell.Same = refl
taken_weight cell.Null = refl
taken_weight (cell.Text t) = refl

-- a row made of nulls weighs no more than its event
applied_nulls_weight : (n : ℕ) (cells : List Cell) → weight_of (applied (nulls n) cells) ≤ sum_by weight_of_cell cells
applied_nulls_weight zero cells = omega arith
applied_nulls_weight (suc n) [] = omega (arith, nulls_weigh_nothing (suc n))
applied_nulls_weight (suc n) (c ∷ cells) =
    omega (
      arith,
      first_weight (kept_or_taken value.Null c) (applied (nulls n) cells),
      taken_weight c,
      first_cell_weight
          c cells,
      applied_nulls_weight n cells,
    )

pub new_row_weight : (n : ℕ) (cells : List Cell) (place : ℕ) → weight_of
    (set (applied (nulls n) cells) place value.Null) ≤ sum_by weight_of_cell cells
new_row_weight n cells place =
    omega (arith, set_null_weight (applied (nulls n) cells) place, applied_nulls_weight n cells)
