use Rattle.std.proofs.Common.{◌≡◌, ◌<◌, ◌+◌, ℕ, List, [], ◌∷◌, length, map, drop, set, arith, refl, ap, subst, ◌∙◌}
use Rattle.std.specs.String.{string_bytes}
use Rattle.dest_queue.specs.Step.{recorded_of}
use Rattle.queue_records.specs.Numbered.{StepAt}
use Rattle.relay_core.specs.Event.{run_event}
use Rattle.relay_core.specs.World.{RunEvent, Take}
use Rattle.run_record.specs.PartEvents.{lists_of}
use Rattle.run_record.specs.declared.applying.Part.TheVariants.{Writer}
use Rattle.run_record.proofs.Lists.{reaches-none, reaches-more, reaches-over, next-event, moves-there, records-step}
use Rattle.run_record.proofs.events.take.Goals as goal

pub loop-place-init : goal.loop-place-init
loop-place-init c =
    record {
      reaches = reaches-none (Writer c.args.dest) (map run_event c.in-Some.list.now) c.start_at-start.result c.args.world.now (string_bytes c.args.text.now);
      same = refl;
    }

pub loop-place-preserved : goal.loop-place-preserved
loop-place-preserved c =
    let list = c.in-Some.list.now in
    let event = c.index-list-place-in-loop-place.result in
    let below : c.loop-place.place < length c.in-Some.list.now = omega arith in
    record {
      reaches = reaches-more (Writer c.args.dest) (map run_event list) c.start_at-start.result c.loop-place.place c.args.world.now c.loop-place.world c.apply_own.new.world
          (string_bytes c.args.text.now) (string_bytes c.loop-place.text) (string_bytes c.apply_own.new.text) (run_event event) c.loop-place.invariant.reaches
          c.in_ok-apply_own.ensures.continues c.in_ok-apply_own.ensures.own (next-event list c.loop-place.place event below c.index-list-place-in-loop-place.is);
      same = c.loop-place.invariant.same;
    }

pub returns-then-is_take : goal.returns-then-is_take
unfolding reaches-over
returns-then-is_take c =
    let list = map run_event c.in-Some.list.now in
    let event = c.index-list-place.result in
    let same = c.loop-place.invariant.same in
    let d = c.args.dest in
    let before = string_bytes c.args.text.now in
    let between = string_bytes c.loop-place.text in
    let after = string_bytes c.make_take.new.text in
    let step : StepAt = record { dest = c.args.dest; step = recorded_of c.args.step.now } in
    let below : c.loop-place.place < length c.in-Some.list.now = omega arith in
    let at : drop c.loop-place.place (map run_event c.in-Some.list.now) ≡ Take c.args.dest ∷ drop (c.loop-place.place + 1) (map run_event c.in-Some.list.now) =
    next-event c.in-Some.list.now c.loop-place.place event below c.index-list-place.is
    ∙ ap (λ (e : RunEvent). e ∷ drop (c.loop-place.place + 1) (map run_event c.in-Some.list.now)) (c.is_take.ensures c.if-is_take.true) in
    moves-there (Writer d) (lists_of c.args.lists.now) c.args.starts.now c.move_to.new.starts list c.start_at-start.result (c.loop-place.place + 1) d c.args.limit c.args.world.now
    c.make_take.new.world before after (Take d ∷ []) (Take d ∷ []) (step ∷ []) refl c.in-Some.ensures.list c.start_at-start.ensures
    (subst (λ (s : List ℕ). c.args.dest < length s) same c.in_ok-move_to.ensures.there)
    (c.in_ok-move_to.ensures.moved ∙ ap (λ (s : List ℕ). set s c.args.dest (c.loop-place.place + 1)) same)
    (reaches-over (Writer d) list c.start_at-start.result c.loop-place.place c.args.world.now c.loop-place.world c.make_take.new.world before between after
    (Take d) c.loop-place.invariant.reaches c.in_ok-make_take.ensures.continues at)
    (records-step (Writer d) list c.start_at-start.result c.loop-place.place c.args.limit c.args.world.now c.loop-place.world c.make_take.new.world before between
    (Take d ∷ []) (step ∷ []) c.loop-place.invariant.reaches c.in_ok-make_take.ensures.records)

pub make_take-requires : goal.make_take-requires
make_take-requires c =
    omega (arith, c.in-Some.ensures.there, c.requires, c.loop-place.invariant.reaches.goes.places.destinations)
