use Rattle.std.proofs.Common.{◌≡◌, ℕ, List, false}
use Rattle.pass_lines.specs.Pass.{HasPassed}
use Rattle.pass_lines.proofs.pass_command.pass_pieces.Given as goal

-- some bytes were passed on, and the reader is open
abbrev pub invariant-loop-turn : goal.invariant-loop-turn
invariant-loop-turn g l = record {
  passed : (bytes : List ℕ)
      × HasPassed (g.R.Read.remaining l.fn.input) (g.R.Read.remaining l.input) (g.W.Write.contents l.fn.output) (g.W.Write.contents l.output) l.relay.reader l.moment bytes;
  goes_on : l.relay.reader.closed ≡ false;
}
