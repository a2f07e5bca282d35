use Rattle.core_tests.proofs.tests.holds.a_lock_is_held_for_64_offers.Given as goal

abbrev pub ghosts-set_lets_go : goal.ghosts-set_lets_go
ghosts-set_lets_go a b = record { table = b.blank; name = 1; dests = 1; receivers = 1; senders = 1; size = 10 }
