use Rattle.std.proofs.Common.{◌-◌, ◌≤◌}
use Rattle.std.specs.Prelude.{max, IfSome}
use Rattle.std.specs.Io.KnownBytes.{Appends}
use Rattle.spool.specs.Held.{left_of}
use Rattle.spool.proofs.copy.copy_part.Given as goal

-- what lies before the next byte is copied
abbrev pub invariant-loop-next : goal.invariant-loop-next
invariant-loop-next g l = record {
  least : l.fn.start ≤ l.next;
  most : l.next ≤ max l.fn.start l.fn.end;
  copied : IfSome (g.F.HeldText.text l.file) (λ held. Appends (g.W.Write.contents l.fn.output) (g.W.Write.contents l.output) (left_of held l.fn.start l.next));
}

abbrev pub decreases-loop-next : goal.decreases-loop-next
decreases-loop-next g l = l.end - l.next
