use Rattle.core_tests.proofs.tests.flows.is_moved.Given as goal

abbrev pub ghosts-set_moves : goal.ghosts-set_moves
ghosts-set_moves g a = record { table = a.blank; name = a.flow.now.shape.name; dests = a.flow.now.shape.dests; receivers = a.flow.now.shape.receivers; senders = a.flow.now.shape.senders; size = a.flow.now.shape.size }
