use Rattle.growth_rows.proofs.locks.open_and.Given as goal

abbrev pub ghosts-act_on_set : goal.ghosts-act_on_set
ghosts-act_on_set g a = record { table = a.blank; name = 1; dests = 1; receivers = 2; senders = 1; size = 10 }
