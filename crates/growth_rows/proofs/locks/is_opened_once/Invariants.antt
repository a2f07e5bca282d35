use Rattle.growth_rows.proofs.locks.is_opened_once.Given as goal

abbrev pub ghosts-is_opened : goal.ghosts-is_opened
ghosts-is_opened a = record { table = a.blank; name = 1; dests = 1; receivers = 2; senders = 1; size = 10 }
