use Rattle.std.proofs.Common.{◌-◌, length, drop, refl, sym, ◌∙◌, arith}
use Rattle.std.proofs.lemmas.List.{take_all, length-drop}
use Rattle.name_table.proofs.SameTextLemmas.{same-more, same-whole}
use Rattle.name_table.proofs.same_text.is_same.Goals as goal

pub loop-seen-init : goal.loop-seen-init
loop-seen-init c = record { same = refl; within = omega arith }

pub loop-seen-preserved : goal.loop-seen-preserved
loop-seen-preserved c = record {
  same = same-more c.args.a.now c.args.b.now c.loop-seen.seen 16 c.loop-seen.invariant.same (c.if-not-is_same_block.ensures refl);
  within = omega (arith, c.loop-seen-test.true);
}

pub returns : goal.returns
returns c = λ is.
    let a = c.args.a.now in
    let b = c.args.b.now in
    let last = length a - 16 in
    let whole_a = take_all 16 (drop last a) (omega (arith, length-drop last a, c.if-a-lt-BLOCK.false)) in
    let whole_b = take_all 16 (drop last b) (omega (arith, length-drop last b, c.if-a-b.false)) in
    same-whole a b c.loop-seen.seen last c.loop-seen-test.false c.loop-seen.invariant.same (sym whole_a ∙ c.is_same_block-2.ensures is ∙ whole_b)
