-- Like steps, one after another.
use Rattle.std.specs.Prelude.{ℕ, zero, suc, List, [], ◌∷◌, Bool, true, ◌&&◌}
use Rattle.ls_step.specs.declared.out.Out.{Out}
use Rattle.ls_world.specs.World.{World}
use Rattle.ls_world.specs.Steps.{Once}

-- the world after n of them, what they print, and whether each asks for a next one
abbrev pub nth_world : (World → Once) → ℕ → World → World
nth_world f zero w = w
nth_world f (suc n) w = nth_world f n (f w).after

abbrev pub nth_outs : (World → Once) → ℕ → World → List Out
nth_outs f zero w = []
nth_outs f (suc n) w = (f w).out ∷ nth_outs f n (f w).after

abbrev pub all_go_on : (World → Once) → ℕ → World → Bool
all_go_on f zero w = true
all_go_on f (suc n) w = (f w).more && all_go_on f n (f w).after
