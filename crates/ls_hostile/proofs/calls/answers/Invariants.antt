use Rattle.ls_hostile.proofs.calls.answers.Given as goal

-- the server of the register that was just made, and of the config
abbrev pub ghosts-answers_in : goal.ghosts-answers_in
ghosts-answers_in g a = record { deed = record { register = a.blank.register; set = a.config.set; config = a.config.items } }
