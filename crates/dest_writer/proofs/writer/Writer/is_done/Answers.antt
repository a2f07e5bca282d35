use Rattle.dest_writer.proofs.PlaceLemmas.{done-is, done-same}
use Rattle.dest_writer.proofs.writer.Writer.is_done.Goals as goal

pub returns-clause-done : goal.returns-clause-done
returns-clause-done c =
    let a = c.self.inside in
    rw (← c.self.view_is) (done-is c.is_empty.result a.place.index a.place.offset a.hand.points c.self.invariant.within c.is_empty.ensures.0 c.is_empty.ensures.1)

pub returns-clause-same : goal.returns-clause-same
returns-clause-same c =
    let a = c.self.inside in
    rw (← c.self.view_is) (done-same a.place.index a.place.offset a.hand.points a.up c.self.invariant.within)
