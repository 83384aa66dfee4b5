use Rattle.ls_serve.proofs.serving.serve_config.Given as goal

-- the server of the register that was just made, and of the config
abbrev pub ghosts-open : goal.ghosts-open
ghosts-open g a = record { deed = record { register = a.blank.register; set = a.config.set; config = a.config.items } }
