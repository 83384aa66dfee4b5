use Rattle.ls_bench.proofs.main.Given as goal

-- the server of the register that was just made, and of the config
abbrev pub ghosts-measure : goal.ghosts-measure
ghosts-measure g a = record { deed = record { register = a.blank.register; set = a.config.set; config = a.config.items } }
