use Rattle.std.proofs.Common.{◌≡◌, ◌∙◌, ℕ, get_or, take, sum_by, slice_index, sym, ap, arith}
use Rattle.std.proofs.lemmas.Grind.{common_steps}
use Rattle.std.proofs.lemmas.List.{take_all}
use Rattle.std.proofs.lemmas.List.Sums.{sum_by_more, sum_by_more_le}
use Rattle.queue_records.proofs.sums.total_at.Goals as goal

pub loop-record-preserved : goal.loop-record-preserved
loop-record-preserved g c =
    let f : g.row.R.Denot → ℕ = λ r. slice_index (g.R.Totals.totals_of r) c.args.dest in
    let rs = c.args.records.now in
    let i = c.loop-record.record-index in
    let r = c.record-item.result in
    let own : c.unwrap_or.result ≡ f r = grind (arith, common_steps) in
    let before : c.loop-record.sum ≡ sum_by f (take i rs) = c.loop-record.invariant in
    let more = sum_by_more f rs i r c.loop-record-test.true in
    let item : f (get_or rs i r) ≡ f r = ap f (sym c.record-item.is) in
    let sum = c.in_ok-sum.ensures.1 in
    omega (arith, own, before, more, item, sum)

pub returns : goal.returns
returns g c =
    c.loop-record.invariant
    ∙ ap (sum_by (λ (r : g.row.R.Denot). slice_index (g.R.Totals.totals_of r) c.args.dest)) (take_all c.loop-record.record-index c.args.records.now c.loop-record-test.false)

pub returns-in_err-sum : goal.returns-in_err-sum
returns-in_err-sum g c =
    let f : g.row.R.Denot → ℕ = λ r. slice_index (g.R.Totals.totals_of r) c.args.dest in
    let rs = c.args.records.now in
    let i = c.loop-record.record-index in
    let r = c.record-item.result in
    let own : c.unwrap_or.result ≡ f r = grind (arith, common_steps) in
    let before : c.loop-record.sum ≡ sum_by f (take i rs) = c.loop-record.invariant in
    let within = sum_by_more_le f rs i r c.loop-record-test.true in
    let item : f (get_or rs i r) ≡ f r = ap f (sym c.record-item.is) in
    let past = c.in_err-sum.ensures in
    rw c.from_residual.ensures (omega (arith, own, before, within, item, past))
