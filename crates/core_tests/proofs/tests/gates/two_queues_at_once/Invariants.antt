use Rattle.core_tests.proofs.tests.gates.two_queues_at_once.Given as goal

abbrev pub ghosts-is_held_alone : goal.ghosts-is_held_alone
ghosts-is_held_alone a b = record { table = b.blank; name = 1; dests = 2; receivers = 2; senders = 1; size = 10 }
