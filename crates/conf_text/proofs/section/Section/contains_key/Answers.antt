use Rattle.std.proofs.Common.{List, ℕ, sym, ap, ◌∙◌}
use Rattle.std.specs.Option.{is_some}
use Rattle.conf_text.specs.Sections.{Pair}
use Rattle.conf_text.proofs.Indexes.{listed}
use Rattle.conf_text.proofs.section.Section.contains_key.Goals as goal

abbrev key : Pair → List ℕ
key p = p.key

pub returns : goal.returns
returns c =
    let items = c.self.inside.pairs.items in
    rw (← c.self.view_is) (c.contains_key.ensures ∙ ap is_some (c.self.invariant c.args.key.now) ∙ sym (listed key c.args.key.now items))
