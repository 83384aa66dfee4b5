use Rattle.ls_hostile.proofs.served.serve_new.Given as goal

-- the server of the register that was just made, and of the config
abbrev pub ghosts-serve : goal.ghosts-serve
ghosts-serve g a = record { deed = record { register = a.blank.register; set = a.config.set; config = a.config.items } }
