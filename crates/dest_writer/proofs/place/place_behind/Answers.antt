use Rattle.std.proofs.Common.{◌∙◌, inl, length, ap, arith}
use Rattle.line_text.specs.Datapoint.{Datapoint}
use Rattle.line_text.specs.Print.{printed_line}
use Rattle.dest_writer.proofs.PlaceLemmas.{line-is, length-next}
use Rattle.dest_writer.proofs.place.place_behind.Goals as goal

pub overflow_sub-length : goal.overflow_sub-length
overflow_sub-length c =
    let same = c.point-item.is in
    let line = ap length (line-is c.loop-point.point-index c.point-item.result c.args.points.now c.loop-point-test.true) in
    let long = c.line_length.ensures ∙ ap (λ (p : Datapoint). length (printed_line p)) same in
    let before = c.loop-point.invariant.before in
    omega arith

pub returns-then-left-length-clause-place : goal.returns-then-left-length-clause-place
returns-then-left-length-clause-place c =
    let same = c.point-item.is in
    let points = c.args.points.now in
    let line = ap length (line-is c.loop-point.point-index c.point-item.result c.args.points.now c.loop-point-test.true) in
    let long = c.line_length.ensures ∙ ap (λ (p : Datapoint). length (printed_line p)) same in
    let short = c.if-left-length.true in
    rw (c.loop-point.invariant.index) (inl (omega arith))

pub loop-point-preserved : goal.loop-point-preserved
loop-point-preserved c =
    let same = c.point-item.is in
    let points = c.args.points.now in
    let line = ap length (line-is c.loop-point.point-index c.point-item.result c.args.points.now c.loop-point-test.true) in
    let long = c.line_length.ensures ∙ ap (λ (p : Datapoint). length (printed_line p)) same in
    let enough = c.if-left-length.false in
    let i = c.loop-point.invariant in
    let passed = i.passed in
    let before = i.before in
    let index = i.index in
    let next = length-next c.loop-point.point-index points in
    record {
      index = omega arith;
      passed = omega arith;
      before = omega arith;
    }
