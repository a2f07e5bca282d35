use Rattle.std.proofs.Common.{◌∙◌, [], ◌∷◌, sym, ap, subst}
use Rattle.dest_writer.specs.Writer.{WriterState}
use Rattle.mio_loops.specs.WriterSteps.{DownStep, HoldsOnlyUnwritten}
use Rattle.mio_loops.proofs.StepsLemmas.{holds_only_unwritten}
use Rattle.mio_loops.proofs.outgoing.Outgoing.detach.Goals as goal

pub invariant_of-self-2 : goal.invariant_of-self-2
invariant_of-self-2 g c =
    let i = c.self.invariant.0 in
    let e = c.in-Ok.ensures in (
      record {
        least = i.least;
        most = i.most;
        fits = e.limit ∙ i.fits;
        empty = i.empty;
        room = i.room;
        unwritten = subst HoldsOnlyUnwritten (sym e.step) (holds_only_unwritten (DownStep ∷ []) c.self.inside.logged.writer.writer i.unwritten ((e.ok, tt)));
      },
      ap (λ (w : WriterState). w.up) e.step,
    )
