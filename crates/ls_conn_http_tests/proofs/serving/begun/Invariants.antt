use Rattle.ls_conn_http_tests.proofs.serving.begun.Given as goal

-- the server of the register that was just made, and of the config
abbrev pub ghosts-serve_begun : goal.ghosts-serve_begun
ghosts-serve_begun g a = record { deed = record { register = a.blank.register; set = a.config.set; config = a.config.items } }
