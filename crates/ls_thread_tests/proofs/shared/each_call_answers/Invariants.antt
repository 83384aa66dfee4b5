use Rattle.ls_thread_tests.proofs.shared.each_call_answers.Given as goal

-- the server of the register that was just made, and of the config
abbrev pub ghosts-is_served : goal.ghosts-is_served
ghosts-is_served g a = record { deed = record { register = a.blank.register; set = a.config.set; config = a.config.items } }
