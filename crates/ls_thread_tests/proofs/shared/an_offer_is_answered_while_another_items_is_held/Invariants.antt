use Rattle.ls_thread_tests.proofs.shared.an_offer_is_answered_while_another_items_is_held.Given as goal

-- the server of the register that was just made, and of the config
abbrev pub ghosts-both_are_answered : goal.ghosts-both_are_answered
ghosts-both_are_answered g a = record { deed = record { register = a.blank.register; set = a.config.set; config = a.config.items } }
