use Rattle.std.proofs.Common.{◌≡◌, pos, ◌≤ℤ◌, ◌<ℤ◌, arith, sym, ◌∙◌}
use Rattle.std.proofs.lemmas.Int.{ints, to_z-of_z}
use Rattle.std.specs.Prelude.{nat_abs}
use mir.Syntax.{w32}
use mir.Val.{SFits}
use Rattle.std.proofs.lemmas.Option.{IfSome_then}
use Rattle.line_text.proofs.ValueLemmas.{units-at_above, units-at_below, units-at_far_below}
use Rattle.line_text.proofs.value.units_of.Goals as goal

pub returns-then-exponent-ge0-clause-units : goal.returns-then-exponent-ge0-clause-units
returns-then-exponent-ge0-clause-units c =
    let above : pos 0 ≤ℤ c.args.exponent = grind (arith, ints, c.if-exponent-ge0.true) in
    let fits : SFits w32 c.args.exponent = c.ranges.exponent in
    let is : c.unsigned_abs-places.result ≡ nat_abs c.args.exponent = simp to_z-of_z at c.unsigned_abs-places.ensures.value in
    let units = units-at_above c.args.digits c.unsigned_abs-places.result c.args.exponent above is in
    IfSome_then c.product.result c.product.ensures.product (λ u is. is ∙ sym units)

pub returns-then-exponent-ge0-clause-none : goal.returns-then-exponent-ge0-clause-none
returns-then-exponent-ge0-clause-none c = λ none.
    let above : pos 0 ≤ℤ c.args.exponent = grind (arith, ints, c.if-exponent-ge0.true) in
    let fits : SFits w32 c.args.exponent = c.ranges.exponent in
    let is : c.unsigned_abs-places.result ≡ nat_abs c.args.exponent = simp to_z-of_z at c.unsigned_abs-places.ensures.value in
    let units = units-at_above c.args.digits c.unsigned_abs-places.result c.args.exponent above is in
    omega (arith, units, c.product.ensures.none none)

pub returns-then-places-le-DECIMALS-clause-units : goal.returns-then-places-le-DECIMALS-clause-units
returns-then-places-le-DECIMALS-clause-units c =
    let below : c.args.exponent <ℤ pos 0 = grind (arith, ints, c.if-exponent-ge0.false) in
    let fits : SFits w32 c.args.exponent = c.ranges.exponent in
    let is : c.unsigned_abs-places.result ≡ nat_abs c.args.exponent = simp to_z-of_z at c.unsigned_abs-places.ensures.value in
    let units = units-at_below c.args.digits c.unsigned_abs-places.result c.args.exponent below is c.if-places-le-DECIMALS.true in
    IfSome_then c.product-then-places-le-DECIMALS.result c.product-then-places-le-DECIMALS.ensures.product (λ u is. is ∙ sym units)

pub returns-then-places-le-DECIMALS-clause-none : goal.returns-then-places-le-DECIMALS-clause-none
returns-then-places-le-DECIMALS-clause-none c = λ none.
    let below : c.args.exponent <ℤ pos 0 = grind (arith, ints, c.if-exponent-ge0.false) in
    let fits : SFits w32 c.args.exponent = c.ranges.exponent in
    let is : c.unsigned_abs-places.result ≡ nat_abs c.args.exponent = simp to_z-of_z at c.unsigned_abs-places.ensures.value in
    let units = units-at_below c.args.digits c.unsigned_abs-places.result c.args.exponent below is c.if-places-le-DECIMALS.true in
    omega (arith, units, c.product-then-places-le-DECIMALS.ensures.none none)

pub returns-else-places-le-DECIMALS-clause-units : goal.returns-else-places-le-DECIMALS-clause-units
returns-else-places-le-DECIMALS-clause-units c =
    let below : c.args.exponent <ℤ pos 0 = grind (arith, ints, c.if-exponent-ge0.false) in
    let fits : SFits w32 c.args.exponent = c.ranges.exponent in
    let is : c.unsigned_abs-places.result ≡ nat_abs c.args.exponent = simp to_z-of_z at c.unsigned_abs-places.ensures.value in
    c.nearest_at.ensures
    ∙ sym (units-at_far_below c.args.digits c.unsigned_abs-places.result c.args.exponent below is c.if-places-le-DECIMALS.false)
