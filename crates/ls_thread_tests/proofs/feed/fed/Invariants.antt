use Rattle.ls_thread_tests.proofs.feed.fed.Given as goal

-- the server of the register that was just made, and of the config
abbrev pub ghosts-feed_over : goal.ghosts-feed_over
ghosts-feed_over g a = record { deed = record { register = a.blank.register; set = a.config.set; config = a.config.items } }
