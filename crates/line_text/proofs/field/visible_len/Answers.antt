use Rattle.std.proofs.Common.{◌≡◌, ◌+◌, ℕ, List, take, drop, sym, ap, ◌∙◌, arith}
use Rattle.std.proofs.lemmas.List.{drop-drop}
use Rattle.std.proofs.lemmas.Grind.{common_steps}
use Rattle.std.specs.List.{prefix_len, position_or_len}
use Rattle.relay_base.specs.White.{is_white}
use Rattle.line_text.specs.Field.{is_visible}
use Rattle.line_text.proofs.FieldLemmas.{position-past_visible}
use Rattle.line_text.proofs.field.visible_len.Goals as goal

-- past a block, of which r bytes are passed
passed : (text : List ℕ) (seen r n : ℕ) → n ≡ 16 → r ≡ prefix_len is_visible (take n (drop seen text))
    → position_or_len is_white text ≡ seen + position_or_len is_white (drop seen text)
    → position_or_len is_white text ≡ seen + r + position_or_len is_white (drop (seen + r) text)
passed text seen r n long is before =
    let rest = drop seen text in
    let same = is ∙ ap (λ (k : ℕ). prefix_len is_visible (take k rest)) long in
    let next : position_or_len is_white rest ≡ r + position_or_len is_white (drop (seen + r) text)
    = position-past_visible 16 rest ∙ ap (λ (k : ℕ). k + position_or_len is_white (drop k rest)) (sym same) ∙ ap (λ (l : List ℕ). r + position_or_len is_white l) (drop-drop r seen text) in
    omega (arith, before, next)

pub returns-then-visible-lt-BLOCK-clause-len : goal.returns-then-visible-lt-BLOCK-clause-len
returns-then-visible-lt-BLOCK-clause-len c =
    passed c.args.text.now c.loop-seen.seen c.visible_in_last-visible.result _ (omega arith) c.visible_in_last-visible.ensures.len c.loop-seen.invariant.len

pub loop-seen-preserved : goal.loop-seen-preserved
loop-seen-preserved c = record {
  len = passed c.args.text.now c.loop-seen.seen c.visible_in_last-visible.result _ (omega arith) c.visible_in_last-visible.ensures.len c.loop-seen.invariant.len;
  within = grind (arith, common_steps);
}
