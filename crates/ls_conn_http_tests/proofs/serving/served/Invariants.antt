use Rattle.ls_conn_http_tests.proofs.serving.served.Given as goal

-- the server of the register that was just made, and of the config
abbrev pub ghosts-serve_each : goal.ghosts-serve_each
ghosts-serve_each g a = record { deed = record { register = a.blank.register; set = a.config.set; config = a.config.items } }
