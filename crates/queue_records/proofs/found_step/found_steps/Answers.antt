use Rattle.std.proofs.Common.{◌≡◌, ◌<◌, ◌*◌, ◌++◌, length, map, take, sym, ap, ◌∙◌, arith}
use Rattle.std.proofs.lemmas.Grind.{common_steps}
use Rattle.std.specs.Prelude.{slice_get, slice_index_or, Some}
use Rattle.std.proofs.lemmas.Option.{slice_get-get_or}
use Rattle.std.specs.Vec.{vec_len}
use Rattle.dest_queue.specs.Queue.{most_steps}
use Rattle.dest_queue.specs.Step.{recorded_of}
use Rattle.dest_queue.specs.Numbered.{numbered_from, all_numbered}
use Rattle.queue_records.specs.Numbered.{made_by}
use Rattle.queue_records.proofs.Numbering.{histories_more}
use Rattle.queue_records.proofs.found_step.found_steps.Goals as goal

pub loop-dest-preserved : goal.loop-dest-preserved
loop-dest-preserved c =
    let i = c.loop-dest.dest in
    let hs = c.args.histories.now in
    let h = c.index-histories-dest.result in
    let within : i < length hs = grind (arith, common_steps) in
    let same : slice_index_or hs i h ≡ h = grind (arith, common_steps) in
    let at : slice_get hs i ≡ Some h = slice_get-get_or hs i h within ∙ ap Some same in
    record {
      count = grind (arith, common_steps);
      found = λ k lt.
          let lt' : k < vec_len c.loop-dest.found = grind (arith, common_steps) in
          c.in_ok-add_steps.ensures.added k lt'
          ∙ (ap (λ r. r ++ made_by c.args.readers k (numbered_from i (most_steps * i) (map recorded_of c.as_slice.result.now))) (c.loop-dest.invariant.found k lt')
          ∙ (ap (λ xs. made_by c.args.readers k (all_numbered 0 (map (λ history. map recorded_of history.items) (take i hs))) ++ made_by c.args.readers k (numbered_from i (most_steps * i) (map recorded_of xs))) c.as_slice.ensures.value
          ∙ sym (histories_more (λ history. map recorded_of history.items) c.args.readers k i hs h within at)));
    }
