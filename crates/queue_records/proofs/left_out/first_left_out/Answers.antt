use Rattle.std.proofs.Common.{length}
use Rattle.queue_records.specs.Settling.{offers_recorded, taken_recorded}
use Rattle.queue_records.proofs.LeftOut.{AreCapped, capped_all, found_whole}
use Rattle.queue_records.proofs.left_out.first_left_out.Goals as goal

pub returns-clause-whole : goal.returns-clause-whole
returns-clause-whole c =
    let n = length c.args.counts.now in
    let offers = c.as_slice-2.result.now in
    let taken = c.as_slice-3.result.now in
    let offered : AreCapped n offers (λ d. offers_recorded d c.args.doors.now) =
    capped_all (λ d doors. offers_recorded d doors) n c.loop-door.door-index c.args.doors.now c.loop-door.offers.items offers c.as_slice-2.ensures.value c.loop-door-test.false c.loop-door.invariant.counted in
    let took : AreCapped n taken (λ d. taken_recorded d c.args.outlets.now) =
    capped_all (λ d outlets. taken_recorded d outlets) n c.loop-outlet.outlet-index c.args.outlets.now c.loop-outlet.taken.items taken c.as_slice-3.ensures.value c.loop-outlet-test.false c.loop-outlet.invariant.counted in
    found_whole c.args.doors.now c.args.outlets.now c.args.counts.now offers taken offered took c.first_short.result c.first_short.ensures
