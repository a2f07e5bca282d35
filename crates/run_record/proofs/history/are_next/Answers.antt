use Rattle.std.proofs.Common.{◌<◌, ◌+◌, get_or, length, set, arith, refl, ◌∙◌}
use Rattle.std.proofs.lemmas.List.{length-set}
use Rattle.std.specs.Prelude.{◌/◌}
use Rattle.dest_queue.specs.Queue.{most_steps}
use Rattle.dest_queue.specs.Step.{recorded_of}
use Rattle.queue_records.specs.Numbered.{StepAt}
use Rattle.run_record.proofs.Orders.{up-to-more}
use Rattle.run_record.proofs.history.are_next.Goals as goal

pub loop-number-preserved : goal.loop-number-preserved
loop-number-preserved c =
    let order = c.args.order.now in
    let places = c.loop-number.places in
    let i = c.loop-number.number-index in
    let dest = c.dest_of-dest.result in
    let place = c.place_of-place.result in
    let x : StepAt = record { dest = get_or c.args.order.now c.loop-number.number-index 0 / most_steps; step = recorded_of c.in-Some.field-0.now } in
    let within : c.dest_of-dest.result < length c.loop-number.places = omega (arith, c.if-dest-places.false) in
    record {
      count = length-set places dest (place + 1) ∙ c.loop-number.invariant.count;
      up_to = up-to-more c.args.histories.now order places (set places dest (place + 1)) i dest place x c.loop-number-test.true c.in-Some.ensures c.dest_of-dest.ensures
          c.place_of-place.ensures within c.if-places-dest.false refl c.loop-number.invariant.up_to;
    }
