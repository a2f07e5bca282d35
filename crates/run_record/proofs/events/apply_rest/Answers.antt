use Rattle.std.proofs.Common.{◌<◌, ◌≤◌, [], length, map, arith}
use Rattle.std.proofs.lemmas.List.{length-map}
use Rattle.std.specs.String.{string_bytes}
use Rattle.relay_core.specs.Event.{run_event}
use Rattle.run_record.specs.PartEvents.{lists_of}
use Rattle.run_record.proofs.Lists.{reaches-none, reaches-more, reaches-end, next-event, moves-there, records-own, used-there}
use Rattle.run_record.proofs.events.apply_rest.Goals as goal

pub loop-place-init : goal.loop-place-init
loop-place-init c =
    reaches-none c.args.part (map run_event c.in-Some.list.now) c.start_at-start.result c.args.world.now (string_bytes c.args.text.now)

pub loop-place-preserved : goal.loop-place-preserved
loop-place-preserved c =
    let list = c.in-Some.list.now in
    let event = c.index-list-place.result in
    let below : c.loop-place.place < length c.in-Some.list.now = omega arith in
    reaches-more c.args.part (map run_event list) c.start_at-start.result c.loop-place.place c.args.world.now c.loop-place.world c.apply_own.new.world
    (string_bytes c.args.text.now) (string_bytes c.loop-place.text) (string_bytes c.apply_own.new.text) (run_event event) c.loop-place.invariant
    c.in_ok-apply_own.ensures.continues c.in_ok-apply_own.ensures.own (next-event list c.loop-place.place event below c.index-list-place.is)

pub returns-clause-moves : goal.returns-clause-moves
returns-clause-moves c = λ limit.
    let list = map run_event c.in-Some.list.now in
    let past : length (map run_event c.in-Some.list.now) ≤ c.loop-place.place = omega (arith, length-map c.in-Some.list.now run_event) in
    let all : length (map run_event c.in-Some.list.now) ≤ length c.in-Some.list.now = omega (arith, length-map c.in-Some.list.now run_event) in
    let before = string_bytes c.args.text.now in
    let after = string_bytes c.loop-place.text in
    let end = reaches-end c.args.part list c.start_at-start.result c.loop-place.place (length c.in-Some.list.now) c.args.world.now c.loop-place.world before after [] past all
    c.loop-place.invariant in
    moves-there c.args.part (lists_of c.args.lists.now) c.args.starts.now c.move_to.new.starts list c.start_at-start.result (length c.in-Some.list.now) c.number_of-number.result
    limit c.args.world.now c.loop-place.world before after [] [] [] c.number_of-number.ensures c.in-Some.ensures.list c.start_at-start.ensures
    c.in_ok-move_to.ensures.there c.in_ok-move_to.ensures.moved end
    (records-own c.args.part list c.start_at-start.result (length c.in-Some.list.now) limit c.args.world.now c.loop-place.world before after end)

pub returns-clause-used : goal.returns-clause-used
returns-clause-used c =
    let all : length (map run_event c.in-Some.list.now) ≤ length c.in-Some.list.now = omega (arith, length-map c.in-Some.list.now run_event) in
    used-there c.args.part (lists_of c.args.lists.now) c.args.starts.now c.move_to.new.starts (map run_event c.in-Some.list.now) (length c.in-Some.list.now)
    c.number_of-number.result c.number_of-number.ensures c.in-Some.ensures.list c.in_ok-move_to.ensures.there c.in_ok-move_to.ensures.moved all
