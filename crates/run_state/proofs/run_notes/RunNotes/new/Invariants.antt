use Rattle.std.proofs.Common.{◌≡◌, length, replicate}
use Rattle.run_state.specs.RunNotes.{nothing_counted}
use Rattle.run_state.proofs.run_notes.RunNotes.new.Given as goal

-- this number of destinations
abbrev pub invariant-loop : goal.invariant-loop
invariant-loop l = record {
  dests : length l.notes.dests.items ≡ l.counter;
  earlier : l.notes.earlier.items ≡ replicate l.counter nothing_counted;
  rests : length l.notes.rests.items ≡ l.counter;
}
