use Rattle.core_tests.proofs.tests.giving_way.a_door_waits_for_sixty_naps.Given as goal

abbrev pub ghosts-calls_with : goal.ghosts-calls_with
ghosts-calls_with a b = record { table = b.blank; name = 1; dests = 1; receivers = 1; senders = 1; size = 4 }
