use Rattle.std.proofs.Common.{◌≡◌, ℕ, ◌+◌, ◌≤◌, ◌++◌, List, length, option_copied}
use Rattle.std.specs.Io.KnownBytes.{Appends}
use Rattle.relay_commands.specs.Names.{lines_in, lines_left, names_text, names_notes}
use Rattle.relay_commands.proofs.NamesLemmas.{length_left}
use Rattle.relay_commands.proofs.names_command.route_lines.Given as goal

-- the lines before this one are written and noted
abbrev pub invariant-loop-left : goal.invariant-loop-left
invariant-loop-left g l = record {
  same : l.plan ≡ l.fn.plan;
  within : l.number + length_left (option_copied l.left) ≤ length l.text + 1;
  passed : (done : List (List ℕ))
      × (lines_in l.text ≡ done ++ lines_left (option_copied l.left))
      × (l.number ≡ length done)
      × Appends (g.W.Write.contents l.fn.output) (g.W.Write.contents l.output) (names_text l.fn.plan l.dests done)
      × Appends (g.N.Write.contents l.fn.notes) (g.N.Write.contents l.notes) (names_notes 1 done);
}

abbrev pub decreases-loop-left : goal.decreases-loop-left
decreases-loop-left g l = length_left (option_copied l.left)
