use Rattle.std.proofs.Common.{◌≡◌, ◌+◌, ◌-◌, ◌++◌, List, ap, sym, ◌∙◌, arith}
use Rattle.std.proofs.lemmas.List.{append-nil}
use Rattle.std.proofs.lemmas.Result.{IfOk-from_err}
use Rattle.relay_base.proofs.Growth.{take-kept_through}
use Rattle.line_text.specs.Datapoint.{Datapoint}
use Rattle.line_text.specs.Connection.{arrivals}
use Rattle.pickle_subset.specs.Frame.{length_of, Reception, reception}
use Rattle.pickle_subset.specs.Accepted.{points, bad_pickle_count, bad_rows_count}
use Rattle.pickle_subset.proofs.FramesLemmas.{pickle_in, piece_frame, the_frame, gained-frame, pickles-frame, rows-frame, ends_so}
use Rattle.pickle_subset.proofs.frames.read_frames.Goals as goal

pub loop-end-preserved : goal.loop-end-preserved
loop-end-preserved g c =
    let left = c.loop-end.left.now in
    let end = c.in-Whole.end.now in
    let rest = c.in-Whole.rest.now in
    let moment = c.args.moment in
    let f = the_frame (pickle_in end) moment in
    let begins = c.in-Whole.ensures in
    let so_far = c.loop-end.invariant in
    let size : 4 + length_of left - 0 ≡ 4 + length_of left = omega arith in
    let whole = piece_frame left end rest moment (4 + length_of left - 0) begins.0 size begins.1 begins.2 in
    let fs = (reception (arrivals rest moment)).frames in
    let gs = (reception (arrivals left moment)).frames in
    let frames = ap (λ (r : Reception). r.frames) whole in
    let faults = c.in_ok-faults.faults in
    record {
      gained = gained-frame f fs gs c.loop-end.out.items c.read_frame.new.out.items _ frames c.in_ok-faults.ensures.gained so_far.gained;
      bad_pickles = pickles-frame f fs gs faults.is_bad c.loop-end.bad_pickles c.from.result c.saturating_add-bad_pickles.result _ frames c.in_ok-faults.ensures.bad c.from.ensures c.saturating_add-bad_pickles.ensures so_far.bad_pickles;
      pickles_fit = c.saturating_add-bad_pickles.type_inv;
      bad_rows = rows-frame f fs gs c.loop-end.bad_rows faults.bad_rows c.saturating_add-bad_rows.result _ frames c.in_ok-faults.ensures.bad_rows c.saturating_add-bad_rows.ensures so_far.bad_rows;
      rows_fit = c.saturating_add-bad_rows.type_inv;
      closed = sym (ap (λ (r : Reception). r.closed) whole) ∙ so_far.closed;
      partial = sym (ap (λ (r : Reception). r.partial) whole) ∙ so_far.partial;
      kept = take-kept_through c.args.out.now.items c.loop-end.out.items c.read_frame.new.out.items so_far.kept c.read_frame.ensures.kept;
    }

pub returns : goal.returns
returns g c =
    let left = c.loop-end.left.now in
    let so_far = c.loop-end.invariant in
    let ends = ends_so left c.args.moment c.front_of.result c.front_of.ensures c.in_default.not-Whole in
    let over = c.rest_of.ensures.closed in
    let none = ap points ends.frames in
    let no_pickles = ap bad_pickle_count ends.frames in
    let no_rows = ap bad_rows_count ends.frames in
    record {
      gained = sym (append-nil c.loop-end.out.items) ∙ ap (λ (ps : List Datapoint). c.loop-end.out.items ++ ps) (sym none) ∙ so_far.gained;
      bad_pickles = omega (arith, so_far.bad_pickles, so_far.pickles_fit, no_pickles);
      bad_rows = omega (arith, so_far.bad_rows, so_far.rows_fit, no_rows);
      closed = over ∙ ends.closes ∙ so_far.closed;
      partial = λ goes rest. c.rest_of.ensures.rest goes rest ∙ sym (ends.partial (sym over ∙ goes)) ∙ so_far.partial;
      kept = so_far.kept;
    }

pub returns-in_err-faults-clause-bad_pickles : goal.returns-in_err-faults-clause-bad_pickles
returns-in_err-faults-clause-bad_pickles g c = IfOk-from_err _ _ c.from_residual.ensures.0

pub returns-in_err-faults-clause-bad_rows : goal.returns-in_err-faults-clause-bad_rows
returns-in_err-faults-clause-bad_rows g c = IfOk-from_err _ _ c.from_residual.ensures.0

pub returns-in_err-faults-clause-closed : goal.returns-in_err-faults-clause-closed
returns-in_err-faults-clause-closed g c = IfOk-from_err _ _ c.from_residual.ensures.0

pub returns-in_err-faults-clause-partial : goal.returns-in_err-faults-clause-partial
returns-in_err-faults-clause-partial g c = IfOk-from_err _ _ c.from_residual.ensures.0

pub returns-in_err-faults-clause-kept : goal.returns-in_err-faults-clause-kept
returns-in_err-faults-clause-kept g c =
    take-kept_through c.args.out.now.items c.loop-end.out.items c.read_frame.new.out.items c.loop-end.invariant.kept c.read_frame.ensures.kept
