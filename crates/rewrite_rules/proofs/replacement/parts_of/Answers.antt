use Rattle.std.proofs.Common.{◌≡◌, List, ◌++◌, ◌∷◌, [], Option, option_map, ap, sym, ◌∙◌}
use Rattle.patterns.specs.declared.part.Part.{Part}
use Rattle.rewrite_rules.specs.Replacement.{parts_of}
use Rattle.rewrite_rules.proofs.PartLemmas.{part_before-done}
use Rattle.rewrite_rules.proofs.replacement.parts_of.Goals as goal

pub loop-first-preserved : goal.loop-first-preserved
loop-first-preserved c =
    let done = c.loop-first.parts.items in
    let items : c.push.new.self.items ≡ done ++ c.in-Some.first.part ∷ [] = c.in_ok-push.ensures.items in
    c.loop-first.invariant
    ∙ ap (λ (o : Option (List Part)). option_map (λ ps. done ++ ps) o) c.in-Some.ensures.parts
    ∙ part_before-done done c.in-Some.first.part (parts_of c.args.groups c.in-Some.first.rest.now)
    ∙ ap (λ (xs : List Part). option_map (λ ps. xs ++ ps) (parts_of c.args.groups c.in-Some.first.rest.now)) (sym items)
