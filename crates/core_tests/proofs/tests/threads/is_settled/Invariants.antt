use Rattle.core_tests.proofs.tests.threads.is_settled.Given as goal

abbrev pub ghosts-set_settles : goal.ghosts-set_settles
ghosts-set_settles g a = record { table = a.blank; name = a.case.now.shape.name; dests = a.case.now.shape.dests; receivers = a.case.now.shape.receivers; senders = a.case.now.shape.senders; size = a.case.now.shape.size }
