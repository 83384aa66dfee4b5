use Rattle.ls_conn_ws_tests.proofs.looks.looked.Given as goal

-- the server of the register that was just made, and of the config
abbrev pub ghosts-looks_rightly : goal.ghosts-looks_rightly
ghosts-looks_rightly g a = record { deed = record { register = a.blank.register; set = a.config.set; config = a.config.items } }
