use Rattle.ls_round_tests.proofs.rounds.what_clients_decode_was_published.Given as goal

-- the server of the register that was just made, and of the config
abbrev pub ghosts-all_rounds : goal.ghosts-all_rounds
ghosts-all_rounds g a = record { deed = record { register = a.blank.register; set = a.config.set; config = a.config.items } }
