use Rattle.core_tests.proofs.tests.holds.no_two_locks_are_held.Given as goal

abbrev pub ghosts-set_has_one_lock : goal.ghosts-set_has_one_lock
ghosts-set_has_one_lock a b = record { table = b.blank; name = 1; dests = 2; receivers = 1; senders = 1; size = 10 }
