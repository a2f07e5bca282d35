use Rattle.std.proofs.Common.{◌≡◌, ◌+◌, ◌++◌, ◌∷◌, [], List, get_or, map, take, sym, ap, ◌∙◌}
use Rattle.std.proofs.lemmas.List.{map-append, take_all, take_more}
use Rattle.dest_queue.specs.RecordedStep.{RecordedStep}
use Rattle.dest_queue.specs.Step.{recorded_of}
use Rattle.locked_queues.proofs.copies.copy_steps.Goals as goal

pub loop-step-preserved : goal.loop-step-preserved
loop-step-preserved c =
    let steps = c.args.steps.now in
    let i = c.loop-step.step-index in
    let s = c.step-item.result in
    let copy = c.in_ok-copy_of_step.field-0 in
    let first = map recorded_of (take i steps) in
    let same : recorded_of copy ≡ recorded_of (get_or steps i s) = c.in_ok-copy_of_step.ensures ∙ ap recorded_of c.step-item.is in
    record {
      copied =
          ap (map recorded_of) c.push_reserved.ensures.items
          ∙ map-append recorded_of c.loop-step.copies.items (copy ∷ [])
          ∙ ap (λ (xs : List RecordedStep). xs ++ recorded_of copy ∷ []) c.loop-step.invariant.copied
          ∙ ap (λ (x : RecordedStep). first ++ x ∷ []) same
          ∙ sym (map-append recorded_of (take i steps) (get_or steps i s ∷ []))
          ∙ ap (map recorded_of) (sym (take_more steps i s c.loop-step-test.true));
      count = c.push_reserved.ensures.len ∙ ap (λ n. n + 1) c.loop-step.invariant.count;
      room = c.push_reserved.ensures.capacity ∙ c.loop-step.invariant.room;
    }

pub returns : goal.returns
returns c = c.loop-step.invariant.copied ∙ ap (map recorded_of) (take_all c.loop-step.step-index c.args.steps.now c.loop-step-test.false)
