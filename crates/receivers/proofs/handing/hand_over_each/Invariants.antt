use Rattle.std.proofs.Common.{◌≡◌, ◌≤◌, ℕ}
use Rattle.slab.specs.Slab.{get}
use Rattle.receivers.specs.Handing.{IsHandedEach}
use Rattle.receivers.proofs.handing.hand_over_each.Given as goal

-- the connections of the tokens so far were handed over, and only they were taken out
abbrev pub invariant-loop-token : goal.invariant-loop-token
invariant-loop-token g l = record {
  given : IsHandedEach g.T.ConnectionTaker.takes l.fn.leaving l.token l.fn.taker l.taker;
  there : (other : ℕ) → l.token ≤ other → get l.leaving.sources other ≡ get l.fn.leaving.sources other;
  readers : l.leaving.readers ≡ l.fn.leaving.readers;
  log : l.leaving.log ≡ l.fn.leaving.log;
}
