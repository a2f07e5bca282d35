use Rattle.std.proofs.Common.{◌∙◌, length, drop, ap, sym, arith}
use Rattle.line_text.specs.Print.{printed_line}
use Rattle.dest_writer.proofs.PlaceLemmas.{line-is}
use Rattle.dest_writer.proofs.printing.print_at.Goals as goal

pub returns-then-place-points-clause-within : goal.returns-then-place-points-clause-within
returns-then-place-points-clause-within c =
    let d = c.index-points-place.result in
    let same = c.index-points-place.is in
    let line = c.print_point.ensures.line ∙ ap printed_line same ∙ sym (line-is c.args.place.index d c.args.points.now c.if-place-points.true) in
    let many = ap length line in
    let within = c.requires in
    omega arith

pub returns-then-place-points-clause-bytes : goal.returns-then-place-points-clause-bytes
returns-then-place-points-clause-bytes c =
    let d = c.index-points-place.result in
    let same = c.index-points-place.is in
    ap (drop c.args.place.offset)
    (c.print_point.ensures.line ∙ ap printed_line same ∙ sym (line-is c.args.place.index d c.args.points.now c.if-place-points.true))
