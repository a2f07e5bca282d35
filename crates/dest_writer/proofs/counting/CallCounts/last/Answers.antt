use Rattle.std.proofs.Common.{◌≤◌, subst}
use Rattle.dest_writer.specs.Calls.{CountedCalls, greatest_count}
use Rattle.dest_writer.proofs.counting.CallCounts.last.Goals as goal

-- the count is a number of 64 bits
pub returns-clause-bound : goal.returns-clause-bound
returns-clause-bound c = subst (λ (counts : CountedCalls). counts.calls ≤ greatest_count) c.self.view_is c.self.invariant
