-- The spends of a window.
use Rattle.std.proofs.Common.{ℕ, ◌+◌, ◌-◌, ◌*◌, ◌<◌, ◌≤◌, List, [], ◌∷◌, ◌++◌, arith, All}
use Rattle.std.proofs.lemmas.Bool.{ltb-true}
use Rattle.std.proofs.lemmas.List.Elements.{All-head, All-tail}
use Rattle.std.proofs.lemmas.List.Sums.{sum_by-cons}
use Rattle.std.proofs.Math.Nat.{mul-le-mul_left}
use Rattle.ls_budget.specs.Budget.{Spend, full_credit, taken_by, lacking, credit}
use Rattle.ls_budget.specs.Window.{latest_tick, MadeWithCredit, IsWithin, taken_in_all}
use Rattle.ls_budget.proofs.Credits.{restored}

-- those behind were made with credit too
pub made_behind : (r : ℕ) (newer spends : List Spend) → MadeWithCredit r (newer ++ spends) → MadeWithCredit r spends
made_behind r [] spends made = made
made_behind r (s ∷ newer) spends made = made_behind r newer spends made.2

-- what was taken from a tick on is lacking, but for what was restored since
taken_is_lacking : (r : ℕ) (within older : List Spend) (from to now : ℕ) → MadeWithCredit r (within ++ older)
    → All (IsWithin from to) within → from ≤ now → latest_tick (within ++ older) ≤ now
    → taken_in_all within ≤ lacking r (within ++ older) now + r * (now - from)
taken_is_lacking r [] older from to now made all low behind = omega arith
taken_is_lacking r (s ∷ within) older from to now made all low behind =
    let at : IsWithin from to s = All-head (IsWithin from to) s within all in
    let before : taken_in_all within ≤ lacking r (within ++ older) s.tick + r * (s.tick - from) =
    taken_is_lacking r within older from to s.tick made.2 (All-tail (IsWithin from to) s within all) at.0 made.1 in
    omega (arith, before, sum_by-cons taken_by s within, restored r from s.tick now at.0 behind)

-- the bound of a window
pub window_bound : (r : ℕ) (newer within older : List Spend) (last : Spend) (from to : ℕ)
    → MadeWithCredit r (newer ++ (last ∷ (within ++ older))) → All (IsWithin from to) (last ∷ within)
    → taken_in_all within < full_credit r + r * (to - from)
window_bound r newer within older last from to made all =
    let m : MadeWithCredit r (last ∷ (within ++ older)) = made_behind r newer (last ∷ (within ++ older)) made in
    let has : 0 < credit r (within ++ older) last.tick = ltb-true 0 (credit r (within ++ older) last.tick) m.0 in
    let at : IsWithin from to last = All-head (IsWithin from to) last within all in
    let taken =
    taken_is_lacking r within older from to last.tick m.2 (All-tail (IsWithin from to) last within all) at.0 m.1 in
    omega (arith, has, taken, mul-le-mul_left {m = last.tick - from} {n = to - from} r (omega (arith, at.1)))
