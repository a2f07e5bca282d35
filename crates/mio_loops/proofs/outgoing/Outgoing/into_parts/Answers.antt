use Rattle.std.proofs.Common.{sym, ap, ◌∙◌}
use Rattle.mio_loops.specs.OutgoingState.{OutgoingState}
use Rattle.mio_loops.proofs.outgoing.Outgoing.into_parts.Goals as goal
use Rattle.mio_loops.proofs.outgoing.Outgoing.into_parts.Goals.{in-Some, in-None}

pub returns-clause-left : goal.returns-clause-left
returns-clause-left g c =
    let same = ap (λ (o : OutgoingState g.row.W.Denot). o.sink) (sym c.self.view_is) in
    record {
      limit = ap (λ (o : OutgoingState g.row.W.Denot). o.limit) c.self.view_is;
      writer = ap (λ (o : OutgoingState g.row.W.Denot). o.writer) c.self.view_is;
      sink = elim c.match-sink.branch [
        | in-Some w ↦ rw w.sink-is (w.in-Some.sink, same ∙ w.in-Some.is, sym w.into_stream.ensures)
        | in-None w ↦ rw w.sink-is (same ∙ w.in-None.is)
      ];
    }
