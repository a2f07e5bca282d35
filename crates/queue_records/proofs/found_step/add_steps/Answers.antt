use Rattle.std.proofs.Common.{◌≡◌, ◌<◌, ◌+◌, ◌*◌, ◌++◌, ◌∷◌, [], ℕ, List, length, map, take, sym, ap, ◌∙◌, arith}
use Rattle.std.proofs.lemmas.Grind.{common_steps}
use Rattle.std.specs.Prelude.{slice_get, slice_index_or, Some, ◌==◌, if◌then◌else◌}
use Rattle.std.proofs.lemmas.Option.{slice_get-get_or}
use Rattle.std.specs.Vec.{vec_len}
use Rattle.dest_queue.specs.Queue.{most_steps}
use Rattle.dest_queue.specs.Step.{recorded_of}
use Rattle.queue_records.specs.FoundStep.{found_by_key}
use Rattle.dest_queue.specs.Numbered.{NumberedStep, numbered_from}
use Rattle.queue_records.specs.Numbered.{key_of, made_by}
use Rattle.queue_records.proofs.Numbering.{steps_more, append-assoc}
use Rattle.queue_records.proofs.found_step.add_steps.Goals as goal

pub loop-place-preserved : goal.loop-place-preserved
loop-place-preserved c =
    let i = c.loop-place.place in
    let steps = c.args.steps.now in
    let s = c.index-steps-place.result in
    let key = (c.args.readers + 1) * c.args.dest + c.maker_of_step.result in
    let number = most_steps * c.args.dest in
    let within : i < length steps = grind (arith, common_steps) in
    let same : slice_index_or steps i s ≡ s = grind (arith, common_steps) in
    let at : slice_get steps i ≡ Some s = slice_get-get_or steps i s within ∙ ap Some same in
    let is : key ≡ key_of c.args.readers c.args.dest (recorded_of s) = ap (λ m. (c.args.readers + 1) * c.args.dest + m) c.maker_of_step.ensures.maker in
    let one : ℕ → List NumberedStep = λ k. if key == k then record { dest = c.args.dest; number = number + i; step = recorded_of s } ∷ [] else [] in
    let first : ℕ → List NumberedStep = λ k. slice_index_or (found_by_key c.args.lists.now.items) k [] in
    record {
      count = grind (arith, common_steps);
      added = λ k lt.
          let lt' : k < vec_len c.loop-place.lists = grind (arith, common_steps) in
          c.in_ok-add_to.ensures.added k lt'
          ∙ (ap (λ r. r ++ one k) (c.loop-place.invariant.added k lt)
          ∙ (append-assoc (first k) (made_by c.args.readers k (numbered_from c.args.dest number (map recorded_of (take i steps)))) (one k)
          ∙ ap (λ r. first k ++ r) (sym (steps_more c.args.readers k key c.args.dest number i steps s within at is))));
    }
