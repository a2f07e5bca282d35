use Rattle.core_tests.proofs.tests.giving_way.a_wait_in_vain_is_the_only_one.Given as goal

abbrev pub ghosts-calls_with : goal.ghosts-calls_with
ghosts-calls_with a b = record { table = b.blank; name = 1; dests = 1; receivers = 1; senders = 1; size = 4 }
