use Rattle.std.proofs.Common.{◌∙◌, List, length, ap, arith}
use Rattle.line_text.specs.Datapoint.{Datapoint}
use Rattle.line_text.specs.Print.{printed_lines}
use Rattle.dest_writer.proofs.PlaceLemmas.{rest-is, within-offset, shift-line, length-first, length-cut}
use Rattle.dest_writer.proofs.writer.Writer.left.Goals as goal

pub overflow_sub-result : goal.overflow_sub-result
overflow_sub-result c =
    let a = c.self.inside in
    let many = c.text_length.ensures ∙ ap (λ (ps : List Datapoint). length (printed_lines ps)) (rest-is a.place.index c.points.result.now a.hand.points c.points.ensures) in
    let within = within-offset a.place.index a.place.offset a.hand.points c.self.invariant.within in
    let line = ap length (shift-line a.place.index 0 a.hand.points) in
    let first = length-first a.place.index a.hand.points in
    omega arith

pub returns : goal.returns
returns c =
    let a = c.self.inside in
    let many = c.text_length.ensures ∙ ap (λ (ps : List Datapoint). length (printed_lines ps)) (rest-is a.place.index c.points.result.now a.hand.points c.points.ensures) in
    let cut = length-cut a.place.index a.hand.points in
    rw (← c.self.view_is) (omega arith)
