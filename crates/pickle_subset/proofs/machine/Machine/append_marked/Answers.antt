use Rattle.std.proofs.Common.{◌≡◌, true, Ok, List, length, rules, Option, ok_or, ap, sym, ◌∙◌}
use Rattle.pickle_subset.specs.declared.fault.PickleFault.TheVariants.{BadShape}
use Rattle.pickle_subset.specs.declared.value.Item.{Item}
use Rattle.pickle_subset.specs.Instruction.{◌>>=◌}
use Rattle.pickle_subset.specs.Value as values
use Rattle.pickle_subset.specs.Stack.{append_rows}
use Rattle.pickle_subset.specs.Views.{stack, machine, begins_with_list}
use Rattle.pickle_subset.proofs.PopLemmas.{rows-turned, appended}
use Rattle.pickle_subset.proofs.machine.Machine.append_marked.Goals as goal

pub returns-then-is_list_on_top : goal.returns-then-is_list_on_top
returns-then-is_list_on_top c =
    let before = machine c.args.self.now in
    let found = c.in_ok-pop_rows.ensures in
    let left = stack c.pop_rows.new.items.items in
    let on_top : begins_with_list left ≡ true =
    ap (λ (items : List Item). begins_with_list (stack items)) (sym c.as_slice.ensures.value) ∙ sym c.is_list_on_top.ensures ∙ c.if-is_list_on_top.true in
    let start : c.len-start.result ≡ length c.args.self.now.rows.items = c.len-start.ensures ∙ search rules in
    let turned = rows-turned c.args.self.now.rows.items c.pop_rows.new.found.items c.reverse_from.new.found.items found.0 c.len-start.result start found.2 c.reverse_from.ensures in
    ap (λ (o : Option (List values.Row × List values.Item)). ok_or o BadShape >>= λ x. append_rows x.0 x.1 before) found.1
    ∙ appended left found.0 before on_top
    ∙ ap (λ (rs : List values.Row). Ok (record before { stack = left; rows = rs })) (sym turned)
