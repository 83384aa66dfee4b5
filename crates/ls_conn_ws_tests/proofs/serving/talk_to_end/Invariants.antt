use Rattle.ls_conn_ws_tests.proofs.serving.talk_to_end.Given as goal

-- the server of the register that was just made, and of the config
abbrev pub ghosts-serve_over : goal.ghosts-serve_over
ghosts-serve_over g a = record { deed = record { register = a.blank.register; set = a.config.set; config = a.config.items } }
