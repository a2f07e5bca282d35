use Rattle.std.proofs.Common.{◌≡◌, ◌≤◌, ◌+◌, ℕ, Some, List, [], ◌∷◌, ◌++◌, length, take, get_or, arith, sym, ap, subst, ◌∙◌}
use Rattle.std.proofs.lemmas.List.{take_all}
use Rattle.std.specs.String.{string_bytes}
use Rattle.dest_queue.specs.Step.{recorded_of}
use Rattle.dest_queue.specs.declared.step.Step.{Step}
use Rattle.queue_records.specs.Numbered.{StepAt}
use Rattle.run_record.specs.Making.{Made}
use Rattle.run_record.specs.PartEvents.{lists_of, parts_of}
use Rattle.run_record.specs.QueueSteps.{step_numbered, steps_numbered, event_by}
use Rattle.run_record.specs.declared.applying.Part.TheVariants.{Reader, Writer}
use Rattle.run_record.proofs.Lists.{made-none, nothing-used, made-same, made-offer, made-take, made-fed, made-written, next-numbered, used-more, made-all, count-lists}
use Rattle.run_record.proofs.events.apply_from.Goals as goal
use Rattle.run_record.proofs.events.apply_from.Goals.{in-Offer+in_ok-offer-in-Offer, in-Take+in_ok-take-in-Take}

pub loop-number-init : goal.loop-number-init
loop-number-init c =
    let parts = c.args.parts.now in
    made-none (lists_of parts.fed.now) (lists_of parts.written.now) c.args.fed.now c.args.written.now c.args.limit c.args.world.now (string_bytes c.args.text.now)
    (nothing-used (length parts.fed.now) (lists_of parts.fed.now) c.args.fed.now c.requires.fed)
    (nothing-used (length parts.written.now) (lists_of parts.written.now) c.args.written.now c.requires.written)

pub loop-number-preserved : goal.loop-number-preserved
loop-number-preserved c =
    let fed = lists_of c.args.parts.now.fed.now in
    let written = lists_of c.args.parts.now.written.now in
    let histories = c.args.parts.now.histories.now in
    let i = c.loop-number.number-index in
    let order = c.args.parts.now.order.now in
    let done = steps_numbered histories (take i order) in
    let longer = steps_numbered histories (take (i + 1) order) in
    let step : StepAt = record { dest = c.dest_of-dest.result; step = recorded_of c.in-Some.step.now } in
    let found : step_numbered c.args.parts.now.histories.now (get_or c.args.parts.now.order.now c.loop-number.number-index 0)
    ≡ Some (record { dest = c.dest_of-dest.result; step = recorded_of c.in-Some.step.now }) =
    c.in-Some.ensures ∙ ap (λ (d : ℕ). let x : StepAt = record { dest = d; step = recorded_of c.in-Some.step.now } in Some x) (sym c.dest_of-dest.ensures) in
    let more = next-numbered histories order i step c.loop-number-test.true found in
    let old = c.args.world.now in
    let a = string_bytes c.args.text.now in
    let b = string_bytes c.loop-number.text in
    let event : (s : Step) → c.in-Some.step.now ≡ s → event_by c.dest_of-dest.result (recorded_of c.in-Some.step.now) ≡ event_by c.dest_of-dest.result (recorded_of s) =
    λ s same. ap (λ (x : Step). event_by c.dest_of-dest.result (recorded_of x)) same in
    elim c.match-step.branch [
      | in-Offer+in_ok-offer-in-Offer w ↦
          made-same fed written w.offer.new.starts c.match-step.fed c.loop-number.written c.match-step.written c.args.limit old w.offer.new.world c.match-step.world a
          (string_bytes w.offer.new.text) (string_bytes c.match-step.text) (done ++ step ∷ []) longer w.fed-is w.written-is w.world-is (ap string_bytes w.text-is) more
          (made-offer fed written c.loop-number.fed c.loop-number.written w.offer.new.starts w.in-Offer.reader c.args.limit old c.loop-number.world w.offer.new.world a b
          (string_bytes w.offer.new.text) done step (event _ w.in-Offer.is) c.loop-number.invariant (w.in_ok-offer-in-Offer.ensures c.args.limit))
      | in-Take+in_ok-take-in-Take w ↦
          made-same fed written c.loop-number.fed c.match-step.fed w.take.new.starts c.match-step.written c.args.limit old w.take.new.world c.match-step.world a
          (string_bytes w.take.new.text) (string_bytes c.match-step.text) (done ++ step ∷ []) longer w.fed-is w.written-is w.world-is (ap string_bytes w.text-is) more
          (made-take fed written c.loop-number.fed c.loop-number.written w.take.new.starts c.dest_of-dest.result c.args.limit old c.loop-number.world w.take.new.world a b
          (string_bytes w.take.new.text) done step (event _ w.in-Take.is) c.loop-number.invariant w.in_ok-take-in-Take.ensures)
    ]

pub loop-reader-init : goal.loop-reader-init
loop-reader-init c =
    record {
      made = subst (λ (l : List ℕ). Made (lists_of c.args.parts.now.fed.now) (lists_of c.args.parts.now.written.now) c.loop-number.fed c.loop-number.written c.args.limit
          c.args.world.now c.loop-number.world (string_bytes c.args.text.now) (string_bytes c.loop-number.text) (steps_numbered c.args.parts.now.histories.now l))
          (take_all c.loop-number.number-index c.args.parts.now.order.now c.loop-number-test.false) c.loop-number.invariant;
      used = λ k below. absurd (omega arith);
    }

pub loop-reader-preserved : goal.loop-reader-preserved
loop-reader-preserved c =
    let fed = lists_of c.args.parts.now.fed.now in
    let b = string_bytes c.loop-reader.text in
    let d = string_bytes c.apply_rest.new.text in
    let moves = c.in_ok-apply_rest.ensures.moves c.args.limit in
    record {
      made = made-fed fed (lists_of c.args.parts.now.written.now) c.loop-reader.fed c.loop-number.written c.apply_rest.new.starts c.loop-reader.reader c.args.limit c.args.world.now
          c.loop-reader.world c.apply_rest.new.world (string_bytes c.args.text.now) b d (parts_of c.args.parts.now).steps c.loop-reader.invariant.made moves;
      used = used-more (Reader c.loop-reader.reader) fed c.loop-reader.fed c.apply_rest.new.starts c.args.limit c.loop-reader.world c.apply_rest.new.world b d [] [] []
          c.loop-reader.invariant.used moves c.in_ok-apply_rest.ensures.used;
    }

pub loop-dest-init : goal.loop-dest-init
loop-dest-init c =
    record {
      made = c.loop-reader.invariant.made;
      used = λ k below. c.loop-reader.invariant.used k (omega arith);
      used_written = λ k below. absurd (omega arith);
    }

pub loop-dest-preserved : goal.loop-dest-preserved
loop-dest-preserved c =
    let written = lists_of c.args.parts.now.written.now in
    let b = string_bytes c.loop-dest.text in
    let d = string_bytes c.apply_rest-in-loop-dest.new.text in
    let moves = c.in_ok-apply_rest-2.ensures.moves c.args.limit in
    record {
      made = made-written (lists_of c.args.parts.now.fed.now) written c.loop-reader.fed c.loop-dest.written c.apply_rest-in-loop-dest.new.starts c.loop-dest.dest c.args.limit c.args.world.now
          c.loop-dest.world c.apply_rest-in-loop-dest.new.world (string_bytes c.args.text.now) b d (parts_of c.args.parts.now).steps c.loop-dest.invariant.made moves;
      used = c.loop-dest.invariant.used;
      used_written = used-more (Writer c.loop-dest.dest) written c.loop-dest.written c.apply_rest-in-loop-dest.new.starts c.args.limit c.loop-dest.world c.apply_rest-in-loop-dest.new.world b d
          [] [] [] c.loop-dest.invariant.used_written moves c.in_ok-apply_rest-2.ensures.used;
    }

pub returns : goal.returns
returns c =
    let few : length (lists_of c.args.parts.now.fed.now) ≤ length c.args.parts.now.fed.now = omega (arith, count-lists c.args.parts.now.fed.now) in
    let few_written : length (lists_of c.args.parts.now.written.now) ≤ c.loop-dest.dest = omega (arith, count-lists c.args.parts.now.written.now) in
    made-all (parts_of c.args.parts.now) c.loop-reader.fed c.loop-dest.written (length c.args.parts.now.fed.now) c.loop-dest.dest c.args.limit c.args.world.now c.loop-dest.world
    (string_bytes c.args.text.now) (string_bytes c.loop-dest.text) c.loop-dest.invariant.made few c.loop-dest.invariant.used few_written c.loop-dest.invariant.used_written
