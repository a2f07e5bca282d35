use Rattle.std.proofs.Common.{◌∙◌, false, List, ap}
use Rattle.line_text.specs.Datapoint.{Datapoint}
use Rattle.dest_writer.specs.Writer.{WriterState}
use Rattle.dest_writer.proofs.PlaceLemmas.{within-unfinished}
use Rattle.dest_writer.proofs.writer.Writer.down.Goals as goal

pub returns-clause-step : goal.returns-clause-step
returns-clause-step c =
    let within = within-unfinished c.self.inside.place.index c.self.inside.place.offset c.self.inside.hand.points c.self.invariant.within in
    let state : List Datapoint → WriterState = λ ps. record { hand = ps; written = 0; up = false } in
    rw (← c.self.view_is) (ap state (c.drop_front.ensures.points ∙ within))
