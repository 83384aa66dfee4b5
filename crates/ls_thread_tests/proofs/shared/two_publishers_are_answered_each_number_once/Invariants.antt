use Rattle.ls_thread_tests.proofs.shared.two_publishers_are_answered_each_number_once.Given as goal

-- the server of the register that was just made, and of the config
abbrev pub ghosts-sorted : goal.ghosts-sorted
ghosts-sorted g a = record { deed = record { register = a.blank.register; set = a.config.set; config = a.config.items } }
