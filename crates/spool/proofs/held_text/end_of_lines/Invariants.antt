use Rattle.std.proofs.Common.{◌≡◌, ◌≤◌, [], IfSome, take, drop}
use Rattle.backlog.specs.Lines.{whole_lines}
use Rattle.spool.proofs.held_text.end_of_lines.Given as goal

-- behind this end there are no whole lines
abbrev pub invariant-loop-end : goal.invariant-loop-end
invariant-loop-end g l = record {
  inside : l.end ≤ l.size;
  behind : IfSome (g.F.HeldText.text l.file) (λ held. whole_lines (drop l.end (take l.size held)) ≡ []);
}

abbrev pub decreases-loop-end : goal.decreases-loop-end
decreases-loop-end g l = l.end
