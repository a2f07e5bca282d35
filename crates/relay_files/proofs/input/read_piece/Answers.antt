use Rattle.relay_files.proofs.BytesLemmas.{Keeps-then-Consumes}
use Rattle.relay_files.proofs.input.read_piece.Goals as goal

pub returns-in-Ok-clause-given : goal.returns-in-Ok-clause-given
returns-in-Ok-clause-given g c = Keeps-then-Consumes _ _ _ _ c.loop-try.invariant c.in-Ok.ensures.bytes.0
