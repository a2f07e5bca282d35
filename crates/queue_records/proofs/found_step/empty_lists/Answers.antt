use Rattle.std.proofs.Common.{◌≡◌, List, [], Vec, Global, map, ap, sym, subst, ◌∙◌, arith, slice_index_or}
use Rattle.std.proofs.lemmas.Grind.{common_steps}
use Rattle.queue_records.specs.FoundStep.{found_by_key, numbered_of}
use Rattle.queue_records.specs.declared.found_step.FoundStep.{FoundStep}
use Rattle.queue_records.proofs.Places.{empty_more}
use Rattle.queue_records.proofs.found_step.empty_lists.Goals as goal

pub loop-preserved : goal.loop-preserved
loop-preserved c =
    record {
      lists = grind (arith, common_steps);
      room = c.push_reserved.ensures.capacity ∙ c.loop.invariant.room;
      empty = λ key. subst (λ (lists : List (Vec FoundStep Global)). slice_index_or (found_by_key lists) key [] ≡ []) (sym c.push_reserved.ensures.items)
          (empty_more (λ (steps : Vec FoundStep Global). map numbered_of steps.items) c.loop.lists.items c.new.result key (ap (map numbered_of) c.new.ensures.items) (c.loop.invariant.empty key));
    }
