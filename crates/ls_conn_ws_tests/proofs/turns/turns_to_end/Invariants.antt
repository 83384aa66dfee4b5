use Rattle.ls_conn_ws_tests.proofs.turns.turns_to_end.Given as goal

-- the server of the register that was just made, and of the config
abbrev pub ghosts-turns_over : goal.ghosts-turns_over
ghosts-turns_over g a = record { deed = record { register = a.blank.register; set = a.config.set; config = a.config.items } }
