-- The ticks that clocks tell, in ms (this project's profile).
use Rattle.std.specs.Prelude.{ℕ, max, min, List, [], ◌∷◌}
use Rattle.ls_value.specs.declared.limits.TheConstants.{GREATEST_TICK}

-- a clock in memory: the ticks that it has still to tell, the last one that it told, and the ms that it was let wait
pub record ClockState : Type 0 where
  pub to_come : List ℕ
  pub told : ℕ
  pub waited : ℕ

-- what a clock in memory tells next: none below the last one and none above the greatest, and the last one again behind
-- the end of its list
abbrev pub next_told : List ℕ → ℕ → ℕ
next_told [] told = told
next_told (tick ∷ ticks) told = max told (min tick GREATEST_TICK)
