use Rattle.std.proofs.Common.{[], ◌∷◌}
use Rattle.ls_thread_tests.proofs.register.an_item_has_one_place.Given as goal

-- the house of the register that was just made, and of the one item
abbrev pub ghosts-is_one_place : goal.ghosts-is_one_place
ghosts-is_one_place g a = record { deed = record { register = a.blank.register; set = []; config = a.def.now ∷ [] } }
