use Rattle.std.proofs.Common.{◌++◌, ◌∷◌, [], reverse, List, ap, ◌∙◌}
use Rattle.line_text.specs.Datapoint.{Datapoint}
use Rattle.pass_lines.proofs.LinesLemmas.{popped, Appends-one_more, part-of_passed, part-of_next}
use Rattle.pass_lines.proofs.point_writer.PointWriter.write_all.Goals as goal

pub loop-point-preserved : goal.loop-point-preserved
loop-point-preserved g c =
    let before = c.loop-point.invariant in
    let left = before.1 ∙ ap (λ (rest : List Datapoint). before.0 ++ reverse rest) c.in-Some.ensures.items in (
      before.0 ++ c.in-Some.point ∷ [],
      popped c.args.points.now.items before.0 c.pop.new.self.items c.in-Some.point left,
      Appends-one_more _ _ _ before.0 c.in-Some.point before.2 c.in_ok-write.ensures.ok,
    )

pub returns-clause-part : goal.returns-clause-part
returns-clause-part g c =
    let before = c.loop-point.invariant in
    part-of_passed _ _ c.args.points.now.items before.0 (reverse c.loop-point.points.items) before.1 before.2

pub returns-in_err-write-clause-part : goal.returns-in_err-write-clause-part
returns-in_err-write-clause-part g c =
    let before = c.loop-point.invariant in
    let left = before.1 ∙ ap (λ (rest : List Datapoint). before.0 ++ reverse rest) c.in-Some.ensures.items in
    part-of_next _ _ _ c.args.points.now.items before.0 (reverse c.pop.new.self.items) c.in-Some.point
    (popped c.args.points.now.items before.0 c.pop.new.self.items c.in-Some.point left) before.2 c.in_err-write.ensures.part
