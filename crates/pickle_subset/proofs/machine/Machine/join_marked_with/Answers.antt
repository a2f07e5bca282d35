use Rattle.std.proofs.Common.{List, ◌∷◌, Result, subst, ap, sym, ◌∙◌}
use Rattle.relay_base.specs.Memory.{Gives}
use Rattle.pickle_subset.specs.declared.fault.PickleFault.{PickleFault}
use Rattle.pickle_subset.specs.declared.fault.PickleFault.TheVariants.{NoMemory}
use Rattle.pickle_subset.specs.Value as values
use Rattle.pickle_subset.specs.Stack.{State, join_marked}
use Rattle.pickle_subset.specs.Views.{item, stack, machine}
use Rattle.pickle_subset.proofs.TupleLemmas.{join_marked-of_any}
use Rattle.pickle_subset.proofs.machine.Machine.join_marked_with.Goals as goal

pub returns : goal.returns
returns c =
    let before = machine c.args.self.now in
    let left = stack c.pop.new.items.items in
    let second = item c.args.second.now in
    let joined = join_marked-of_any (second ∷ item c.in-Some.first ∷ left) before left ∙ ap (λ (items : List values.Item). join_marked (second ∷ items) before) (sym c.in-Some.ensures) in
    subst (λ (r : Result State PickleFault). Gives NoMemory (λ _. machine c.join_above_mark-joined.new.self) c.join_above_mark-joined.result r) joined c.join_above_mark-joined.ensures
