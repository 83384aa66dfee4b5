use Rattle.std.proofs.Common.{◌≡◌, ◌-◌, ◌+◌, List, length, take, drop, arith, ℕ}
use Rattle.std.proofs.lemmas.List.{take_all, length-drop}
use Rattle.ls_item.proofs.RowWeights.{weight_without}
use Rattle.ls_item.proofs.weights.applied_weight_but.Goals as goal

-- what is behind a place is all of it
behind : {X : Type 0} (xs : List X) (n : ℕ) → take (length xs - n) (drop n xs) ≡ drop n xs
behind xs n = take_all (length xs - n) (drop n xs) (omega (arith, length-drop n xs))

pub returns : goal.returns
returns c =
    let whole = weight_without c.args.row.now c.args.cells.now c.args.place c.requires.cells c.requires.within in
    let rest = rw (behind c.args.row.now (c.args.place + 1), behind c.args.cells.now (c.args.place + 1)) at
    c.applied_weight.ensures in
    omega (arith, whole, c.applied_weight-before.ensures, rest, c.saturating_add.ensures)
