use Rattle.std.proofs.Common.{◌++◌, List, ap, subst, ◌∙◌, arith}
use Rattle.line_text.specs.Datapoint.{Datapoint}
use Rattle.line_text.specs.Connection.{arrivals}
use Rattle.reader_core.specs.Configuration.{Dispatch}
use Rattle.reader_core.specs.Offers.{offers_by, dropped_by}
use Rattle.router.specs.Plan.{Plan}
use Rattle.reader_core.specs.Scan.{kind_of, gone_on, PieceFound, scan_after}
use Rattle.reader_core.specs.declared.scan.Scan.{Scan}
use Rattle.reader_core.proofs.Representing.{piece_taken}
use Rattle.reader_core.proofs.reader.take_piece.Goals as goal

pub returns-clause-taken : goal.returns-clause-taken
returns-clause-taken c = λ connection keeps.
    let before = gone_on (kind_of c.args.scan.now) connection in
    let piece = arrivals c.args.piece.now c.args.moment in
    let found = subst (λ (old : List Datapoint). PieceFound c.args.scan.now before piece old c.find.new.out.items c.in_ok-found.found)
    c.clear.ensures.items (c.in_ok-found.ensures.found connection keeps) in
    let moved = c.in_ok-end.ensures.moved ∙ ap (λ (s : Scan). scan_after s c.in_ok-found.found) c.find.ensures.same in
    let offers =
    c.in_ok-bad_names.ensures.waiting
    ∙ ap (λ (w : List Dispatch). w ++ offers_by c.find.new.plan c.find.new.out.items) c.requires
    ∙ ap (λ (plan : Plan). offers_by plan c.find.new.out.items) c.find.ensures.plan in
    let dropped = c.in_ok-bad_names.ensures.dropped ∙ ap (λ (plan : Plan). dropped_by plan c.find.new.out.items) c.find.ensures.plan in
    piece_taken c.args.scan.now c.move_on.new.self c.in_ok-found.found c.args.plan.now before piece c.find.new.out.items
    c.send_points.new.waiting.items c.in_ok-bad_names.bad_names (record { datapoints = c.len-datapoints.result; faults = c.counts.result }) found moved c.counts.ensures
    (omega (arith, c.len-datapoints.ensures)) offers dropped
