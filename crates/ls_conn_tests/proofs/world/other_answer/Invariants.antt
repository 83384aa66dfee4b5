use Rattle.ls_conn_tests.proofs.world.other_answer.Given as goal

-- the server of the register that was just made, and of the config
abbrev pub ghosts-other_in : goal.ghosts-other_in
ghosts-other_in g a = record { deed = record { register = a.blank.register; set = a.config.set; config = a.config.items } }
