use Rattle.ls_conn_ws_tests.proofs.workers.stayed.Given as goal

-- the server of the register that was just made, and of the config
abbrev pub ghosts-stays : goal.ghosts-stays
ghosts-stays g a = record { deed = record { register = a.blank.register; set = a.config.set; config = a.config.items } }
