use Rattle.std.proofs.Common.{◌≡◌, ◌+◌, ◌-◌, ℕ, List, take, drop, sym, ap, ◌∙◌, arith}
use Rattle.std.proofs.lemmas.List.{drop-drop}
use Rattle.std.specs.List.{prefix_len}
use Rattle.line_text.specs.Field.{is_visible}
use Rattle.line_text.proofs.PlainLemmas.{prefix_len-past}
use Rattle.line_text.proofs.plain_line.visible_end.Goals as goal

pub loop-seen-preserved : goal.loop-seen-preserved
loop-seen-preserved c =
    let seen = c.loop-seen.seen in
    let k = c.visible_in_last-visible.result in
    let rest = drop seen c.args.line.now in
    let block : seen + 16 - seen ≡ 16 = omega arith in
    let visible : k ≡ prefix_len is_visible (take 16 rest) = c.visible_in_last-visible.ensures.len ∙ ap (λ (n : ℕ). prefix_len is_visible (take n rest)) block in
    let past : prefix_len is_visible rest ≡ k + prefix_len is_visible (drop (seen + k) c.args.line.now)
    = prefix_len-past is_visible 16 rest ∙ ap (λ (n : ℕ). n + prefix_len is_visible (drop n rest)) (sym visible)
    ∙ ap (λ (l : List ℕ). k + prefix_len is_visible l) (drop-drop k seen c.args.line.now) in
    record {
      len = omega (arith, past, c.loop-seen.invariant.len);
      within = omega (arith, c.visible_in_last-visible.ensures.within, c.loop-seen-test.true, c.loop-seen.invariant.within);
    }
