use Rattle.std.proofs.Common.{◌≡◌, ◌<◌, ◌++◌, ◌∷◌, [], length, map, ap, ◌∙◌, arith}
use Rattle.std.proofs.lemmas.Grind.{common_steps}
use Rattle.std.proofs.lemmas.List.{map-append}
use Rattle.std.proofs.lemmas.Result.{IfOk-weaker}
use Rattle.queue_records.specs.FoundStep.{numbered_of}
use Rattle.queue_records.proofs.Places.{index_after}
use Rattle.queue_records.proofs.found_step.add_to.Goals as goal

pub returns-clause-added : goal.returns-clause-added
returns-clause-added c =
    let lists = c.args.lists.now.items in
    let own = c.index_mut.result.now in
    let within : c.args.key < length lists = grind (arith, common_steps) in
    IfOk-weaker c.add.result (λ _. c.add.new.list.items ≡ own.items ++ c.args.found ∷ []) _
    (λ _ is k lt. index_after (λ s. map numbered_of s.items) lists c.args.key (numbered_of c.args.found) c.add.new.list own within (ap (map numbered_of) is ∙ (map-append numbered_of own.items (c.args.found ∷ []) ∙ ap (λ s. map numbered_of s.items ++ numbered_of c.args.found ∷ []) c.index_mut.ensures.value)) k)
    c.add.ensures
