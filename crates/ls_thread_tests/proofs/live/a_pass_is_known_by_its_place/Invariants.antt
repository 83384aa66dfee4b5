use Rattle.std.proofs.Common.{[], ◌∷◌}
use Rattle.ls_thread_tests.proofs.live.a_pass_is_known_by_its_place.Given as goal

-- the house of the register that was just made, and of the one item
abbrev pub ghosts-is_published_at_its_place : goal.ghosts-is_published_at_its_place
ghosts-is_published_at_its_place g a = record { deed = record { register = a.blank.register; set = []; config = a.def.now ∷ [] } }
