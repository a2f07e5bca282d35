use Rattle.std.proofs.Common.{◌≡◌, List, [], ◌∷◌, ◌++◌, get_or, is_err, sym, ap, arith, ◌∙◌}
use Rattle.std.proofs.lemmas.List.{append-nil, drop_all}
use Rattle.relay_base.proofs.Growth.{take-kept}
use Rattle.pickle_subset.specs.declared.value.Row.{Row}
use Rattle.pickle_subset.specs.RowPoint.{point_of}
use Rattle.pickle_subset.specs.Accepted.{row_points, bad_row_count}
use Rattle.pickle_subset.specs.Views.{row, rows}
use Rattle.pickle_subset.proofs.RowLemmas.{gained-more, bad-more, bool_count, count_within}
use Rattle.pickle_subset.proofs.frame_points.add_points.Goals as goal

pub loop-row-preserved : goal.loop-row-preserved
loop-row-preserved c =
    let found = c.args.found.now in
    let i = c.loop-row.row-index in
    let d = c.row-item.result in
    let gained = c.in_ok-row_is_bad.ensures.gained in
    let gained_there : c.is_bad.new.out.items ≡ c.loop-row.out.items ++ row_points c.args.moment (row (get_or found i d) ∷ []) =
    gained ∙ ap (λ (r : Row). c.loop-row.out.items ++ row_points c.args.moment (row r ∷ [])) c.row-item.is in
    let bad_there : c.in_ok-row_is_bad.row_is_bad ≡ is_err (point_of (row (get_or found i d)) c.args.moment) =
    c.in_ok-row_is_bad.ensures.bad ∙ ap (λ (r : Row). is_err (point_of (row r) c.args.moment)) c.row-item.is in
    let one = c.from-bad.ensures ∙ bool_count c.in_ok-row_is_bad.row_is_bad in
    record {
      gained = gained-more c.args.moment found i d c.loop-row.out.items c.is_bad.new.out.items _ c.loop-row-test.true gained_there c.loop-row.invariant.gained;
      bad = bad-more c.args.moment found i d c.in_ok-row_is_bad.row_is_bad c.loop-row.bad c.from-bad.result _ c.loop-row-test.true bad_there c.from-bad.ensures c.loop-row.invariant.bad;
      count = omega (arith, one, count_within c.in_ok-row_is_bad.row_is_bad, c.loop-row.invariant.count);
      kept = rw gained (take-kept c.args.out.now.items c.loop-row.out.items _ c.loop-row.invariant.kept);
    }

pub returns-clause-gained : goal.returns-clause-gained
returns-clause-gained c =
    let out = c.loop-row.out.items in
    let none = drop_all c.loop-row.row-index c.args.found.now c.loop-row-test.false in
    sym (append-nil out) ∙ ap (λ (left : List Row). out ++ row_points c.args.moment (rows left)) (sym none) ∙ c.loop-row.invariant.gained

pub returns-clause-bad : goal.returns-clause-bad
returns-clause-bad c =
    let none = drop_all c.loop-row.row-index c.args.found.now c.loop-row-test.false in
    omega (arith, c.loop-row.invariant.bad, ap (λ (left : List Row). bad_row_count c.args.moment (rows left)) none)

pub overflow_add-bad : goal.overflow_add-bad
overflow_add-bad c =
    let one = c.from-bad.ensures ∙ bool_count c.in_ok-row_is_bad.row_is_bad in
    omega (arith, one, count_within c.in_ok-row_is_bad.row_is_bad, c.loop-row.invariant.count)
