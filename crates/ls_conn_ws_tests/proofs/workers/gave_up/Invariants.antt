use Rattle.ls_conn_ws_tests.proofs.workers.gave_up.Given as goal

-- the server of the register that was just made, and of the config
abbrev pub ghosts-gives_up : goal.ghosts-gives_up
ghosts-gives_up g a = record { deed = record { register = a.blank.register; set = a.config.set; config = a.config.items } }
