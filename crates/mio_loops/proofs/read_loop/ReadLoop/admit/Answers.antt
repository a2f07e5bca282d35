use Rattle.std.proofs.Common.{Some, subst}
use Rattle.slab.specs.Slab.{Updates}
use Rattle.mio_loops.specs.LoopState.{LoopState}
use Rattle.mio_loops.proofs.read_loop.ReadLoop.admit.Goals as goal

pub returns-clause-held : goal.returns-clause-held
returns-clause-held g c = (
  c.new.result,
  subst (λ (l : LoopState g.row.S.Denot). Updates l.sources c.insert_reserved-key.new.self c.insert_reserved-key.result (Some c.new.result)) c.self.view_is c.insert_reserved-key.ensures.updates,
  c.new.ensures.stream,
  c.new.ensures.counts,
)
