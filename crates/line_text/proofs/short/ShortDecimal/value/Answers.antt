use Rattle.std.proofs.Common.{◌≡◌, ℕ, ◌*◌, ◌^◌, ◌-◌, ap, ◌∙◌}
use Rattle.line_text.specs.Value.{units_in_range, value_of}
use Rattle.line_text.proofs.ValueLemmas.{units-short}
use Rattle.line_text.proofs.short.ShortDecimal.value.Goals as goal

pub returns : goal.returns
returns c =
    let places = c.self.inside.places in
    let digits = c.self.inside.digits in
    let minus = c.self.inside.is_minus in
    let product : c.from.result * c.from-2.result ≡ digits * 10 ^ (10 - places)
    = ap (λ (n : ℕ). n * c.from-2.result) c.from.ensures ∙ ap (λ (n : ℕ). digits * n) (c.from-2.ensures ∙ c.units_at.ensures) in
    let units = units-short minus digits places c.if-self-gt-DECIMALS.false c.self.invariant.0 in
    c.value_in_range.ensures ∙ ap (units_in_range minus) product ∙ units ∙ ap value_of c.self.view_is
