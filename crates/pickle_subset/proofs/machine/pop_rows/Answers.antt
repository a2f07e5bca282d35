use Rattle.std.proofs.Common.{◌≡◌, ◌++◌, ◌∷◌, [], List, Result, Ok, ap, sym, subst, ◌∙◌}
use Rattle.pickle_subset.specs.declared.fault.PickleFault.{PickleFault}
use Rattle.pickle_subset.specs.declared.value.Row.{Row}
use Rattle.std.proofs.lemmas.List.{map_push}
use Rattle.pickle_subset.specs.declared.value.Item.{Item}
use Rattle.pickle_subset.specs.Value as values
use Rattle.pickle_subset.specs.Views.{item, rows, row, stack}
use Rattle.pickle_subset.proofs.PopLemmas.{Takes, Takes-row}
use Rattle.pickle_subset.proofs.machine.pop_rows.Goals as goal

-- a row that was shared once more is that row
same_row : (old top : values.Row) (shared : Row) → old ≡ top → ◌≡◌ {A = Result values.Row PickleFault} (Ok old) (Ok (row shared)) → row shared ≡ top
same_row old top shared is e = cc

pub loop-top-preserved : goal.loop-top-preserved
loop-top-preserved c =
    let all = stack c.args.items.now.items in
    let before = rows c.args.found.now.items in
    let top = row c.in-Three.row.value in
    let shared = c.in_ok-share-in-Three.field-0 in
    let left : stack c.loop-top.items.items ≡ values.Three top ∷ stack c.pop.new.items.items =
    c.in-Some.ensures ∙ ap (λ (x : Item). item x ∷ stack c.pop.new.items.items) c.in-Three.is in
    let more = Takes-row all _ (stack c.pop.new.items.items) before (rows c.loop-top.found.items) top left c.loop-top.invariant in
    let same : row shared ≡ top = same_row _ top shared (ap row c.deref.ensures) c.in_ok-share-in-Three.ensures in
    let pushed : rows c.push.new.self.items ≡ rows c.loop-top.found.items ++ top ∷ [] =
    ap rows c.in_ok-push-in-Three.ensures.items ∙ map_push row c.loop-top.found.items shared
    ∙ ap (λ (r : values.Row). rows c.loop-top.found.items ++ r ∷ []) same in
    subst (λ (after : List values.Row). Takes all (stack c.pop.new.items.items) before after) (sym pushed) more
