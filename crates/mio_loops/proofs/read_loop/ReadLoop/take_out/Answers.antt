use Rattle.std.proofs.Common.{sym, ap, ◌∙◌}
use Rattle.slab.specs.Slab.{get}
use Rattle.mio_loops.specs.LoopState.{LoopState}
use Rattle.mio_loops.proofs.read_loop.ReadLoop.take_out.Goals as goal

pub returns-clause-stream : goal.returns-clause-stream
returns-clause-stream g c = (
  c.in_ok-source.source,
  ap (λ (l : LoopState g.row.S.Denot). get l.sources c.args.token.0) (sym c.self.view_is) ∙ sym c.try_remove.ensures.value ∙ c.in_ok-source.was,
  sym c.into_stream.ensures,
)
