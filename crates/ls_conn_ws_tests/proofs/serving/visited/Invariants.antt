use Rattle.ls_conn_ws_tests.proofs.serving.visited.Given as goal

-- the server of the register that was just made, and of the config
abbrev pub ghosts-visit_over : goal.ghosts-visit_over
ghosts-visit_over g a = record { deed = record { register = a.blank.register; set = a.config.set; config = a.config.items } }
