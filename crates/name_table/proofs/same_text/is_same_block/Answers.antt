use Rattle.std.proofs.Common.{◌≡◌, ◌%◌, ◌^◌, cond, length, map, take, drop, sym, ap, ◌∙◌, arith, length-take}
use Rattle.std.proofs.lemmas.Bool.{eqb-true}
use Rattle.std.proofs.lemmas.List.{length-drop}
use Rattle.std.proofs.lemmas.Simd.{tops_compared, mask_l-mod, length-zip2}
use lib.Lanes.{mask_l, top, zip2}
use mir.Syntax.{w8}
use Rattle.name_table.proofs.SameTextLemmas.{differ, same-none_differ}
use Rattle.name_table.proofs.same_text.is_same_block.Goals as goal

pub returns : goal.returns
returns c = λ is.
    let a = take 16 (drop c.args.at c.args.a.now) in
    let b = take 16 (drop c.args.at c.args.b.now) in
    let long_a : length a ≡ 16 = simp (length-take, length-drop) (omega (arith, c.requires.a)) in
    let long_b : length b ≡ 16 = simp (length-take, length-drop) (omega (arith, c.requires.b)) in
    let lanes : mask_l (map (top 7) (zip2 (λ x y. cond (differ x y) 255 0) a b)) % 2 ^ 64 ≡ mask_l (zip2 differ a b)
    = ap (λ ms. mask_l ms % 2 ^ 64) (tops_compared w8 differ a b) ∙ mask_l-mod (zip2 differ a b) 64 (omega (arith, length-zip2 differ a b (long_a ∙ sym long_b))) in
    same-none_differ a b (long_a ∙ sym long_b) (sym lanes ∙ eqb-true _ 0 is)
