use Rattle.ls_shared_tests.proofs.idle.an_idle_turn_takes_no_items_lock.Given as goal

-- the server of the register that was just made, and of the config
abbrev pub ghosts-is_idle_without_locks : goal.ghosts-is_idle_without_locks
ghosts-is_idle_without_locks g a = record { deed = record { register = a.blank.register; set = a.config.set; config = a.config.items } }
