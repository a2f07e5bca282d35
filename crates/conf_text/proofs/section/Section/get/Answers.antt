use Rattle.std.proofs.Common.{List, ℕ, Some, option_map, sym, ap, ◌∙◌, arith}
use Rattle.conf_text.specs.Sections.{Pair}
use Rattle.conf_text.proofs.Indexes.{found, not_found}
use Rattle.conf_text.proofs.section.Section.get.Goals as goal

abbrev value : Pair → List ℕ
value p = p.value

pub returns-in_err-place : goal.returns-in_err-place
returns-in_err-place c =
    let key = c.args.key.now in
    let items = c.self.inside.pairs.items in
    let none = not_found (λ p. p.key) key items (sym (c.in_err-place.ensures.value ∙ c.self.invariant key)) in
    rw (c.from_residual.ensures, ← c.self.view_is) (ap (option_map value) (sym none))

pub index-requires : goal.index-requires
index-requires c =
    let key = c.args.key.now in
    let items = c.self.inside.pairs.items in
    let at = found (λ p. p.key) key items c.in_ok-place.field-0.now (sym (c.in_ok-place.ensures.value ∙ c.self.invariant key)) in
    omega (arith, at.0, c.self.inside.pairs.ok.0)

pub returns : goal.returns
returns c =
    let key = c.args.key.now in
    let items = c.self.inside.pairs.items in
    let at = found (λ p. p.key) key items c.in_ok-place.field-0.now (sym (c.in_ok-place.ensures.value ∙ c.self.invariant key)) in
    rw (← c.self.view_is) (sym (ap (option_map value) (at.1 c.index.result.now) ∙ ap (λ (p : Pair). Some p.value) (sym c.index.ensures) ∙ ap (λ (v : List ℕ). Some v) (sym c.value.ensures)))
