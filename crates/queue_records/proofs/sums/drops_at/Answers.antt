use Rattle.std.proofs.Common.{◌≡◌, ◌∙◌, ℕ, get_or, take, sum_by, slice_index, sym, ap, arith}
use Rattle.std.proofs.lemmas.Grind.{common_steps}
use Rattle.std.proofs.lemmas.List.{take_all}
use Rattle.std.proofs.lemmas.List.Sums.{sum_by_more, sum_by_more_le}
use Rattle.queue_records.specs.declared.door_record.DoorRecord.{DoorRecord}
use Rattle.queue_records.proofs.sums.drops_at.Goals as goal

pub loop-door-preserved : goal.loop-door-preserved
loop-door-preserved c =
    let f : DoorRecord → ℕ = λ r. slice_index r.drops.items c.args.dest in
    let rs = c.args.doors.now in
    let i = c.loop-door.door-index in
    let r = c.door-item.result in
    let own : c.unwrap_or.result ≡ f r = grind (arith, common_steps) in
    let before : c.loop-door.sum ≡ sum_by f (take i rs) = c.loop-door.invariant in
    let more = sum_by_more f rs i r c.loop-door-test.true in
    let item : f (get_or rs i r) ≡ f r = ap f (sym c.door-item.is) in
    let sum = c.in_ok-sum.ensures.1 in
    omega (arith, own, before, more, item, sum)

pub returns : goal.returns
returns c =
    c.loop-door.invariant
    ∙ ap (sum_by (λ (r : DoorRecord). slice_index r.drops.items c.args.dest)) (take_all c.loop-door.door-index c.args.doors.now c.loop-door-test.false)

pub returns-in_err-sum : goal.returns-in_err-sum
returns-in_err-sum c =
    let f : DoorRecord → ℕ = λ r. slice_index r.drops.items c.args.dest in
    let rs = c.args.doors.now in
    let i = c.loop-door.door-index in
    let r = c.door-item.result in
    let own : c.unwrap_or.result ≡ f r = grind (arith, common_steps) in
    let before : c.loop-door.sum ≡ sum_by f (take i rs) = c.loop-door.invariant in
    let within = sum_by_more_le f rs i r c.loop-door-test.true in
    let item : f (get_or rs i r) ≡ f r = ap f (sym c.door-item.is) in
    let past = c.in_err-sum.ensures in
    rw c.from_residual.ensures (omega (arith, own, before, within, item, past))
