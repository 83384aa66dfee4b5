use Rattle.ls_hostile.proofs.lying.serve_liar_new.Given as goal

-- the server of the register that was just made, and of the config
abbrev pub ghosts-serve_liar : goal.ghosts-serve_liar
ghosts-serve_liar g a = record { deed = record { register = a.blank.register; set = a.config.set; config = a.config.items } }
