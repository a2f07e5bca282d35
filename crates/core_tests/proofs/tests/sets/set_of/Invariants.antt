use Rattle.core_tests.proofs.tests.sets.set_of.Given as goal

abbrev pub ghosts-settle_set : goal.ghosts-settle_set
ghosts-settle_set g a = record { table = a.blank; name = a.shape.name; dests = a.shape.dests; receivers = a.shape.receivers; senders = a.shape.senders; size = a.shape.size }
