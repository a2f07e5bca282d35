use Rattle.mio_loops.proofs.TurnLemmas.{attached-is}
use Rattle.mio_loops.proofs.outgoing.Outgoing.attach.Goals as goal

pub returns-clause-attached : goal.returns-clause-attached
returns-clause-attached g c = (
  c.new.result,
  c.new.ensures.stream,
  c.new.ensures.counts,
  attached-is _ c.args.self.now c.up.new.self.writer c.add.new.self c.new.result c.self.view_is c.in-Ok.ensures.step c.add.ensures,
)
