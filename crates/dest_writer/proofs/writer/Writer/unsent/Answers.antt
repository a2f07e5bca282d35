use Rattle.std.proofs.Common.{◌∙◌, List, length, ap, sym, arith}
use Rattle.std.proofs.lemmas.List.{length-drop}
use Rattle.line_text.specs.Datapoint.{Datapoint}
use Rattle.dest_writer.proofs.PlaceLemmas.{within-unfinished}
use Rattle.dest_writer.proofs.writer.Writer.unsent.Goals as goal

pub returns-clause-unfinished : goal.returns-clause-unfinished
returns-clause-unfinished c =
    let a = c.self.inside in
    let unfinished = within-unfinished a.place.index a.place.offset a.hand.points c.self.invariant.within in
    let many = sym (length-drop a.place.index a.hand.points) ∙ ap (λ (ps : List Datapoint). length ps) unfinished in
    let len = c.len.ensures in
    rw (← c.self.view_is) (omega arith)
