use Rattle.std.proofs.Common.{◌≡◌, ◌+◌, ◌-◌, ℕ, List, ◌∷◌, get_or, take, drop, ap, ◌∙◌, arith}
use Rattle.std.proofs.lemmas.List.{drop-drop, get_or-drop, length-drop}
use Rattle.line_text.specs.Field.{fields}
use Rattle.line_text.proofs.FieldLemmas.{fields-before_space}
use Rattle.line_text.proofs.plain_line.word_at.Goals as goal

pub returns-then-line-end-eq32-clause-field : goal.returns-then-line-end-eq32-clause-field
returns-then-line-end-eq32-clause-field c =
    let line = c.args.line.now in
    let at = c.args.at in
    let end = c.visible_end-end.result in
    let text = drop at line in
    let k = end - at in
    let back : at + k ≡ end = omega (arith, c.if-at-end.true) in
    let next : at + (k + 1) ≡ end + 1 = omega (arith, c.if-at-end.true) in
    let space : get_or text k 0 ≡ 32 = get_or-drop at line k 0 ∙ ap (λ (n : ℕ). get_or line n 0) back ∙ c.if-line-end-eq32.true in
    fields-before_space text k (omega (arith, c.visible_end-end.ensures.end)) (omega (arith, c.if-at-end.true)) (omega (arith, length-drop at line, c.if-end-line.true, c.if-at-end.true)) space
    ∙ ap (λ (l : List ℕ). take k text ∷ fields l) (drop-drop (k + 1) at line ∙ ap (λ (n : ℕ). drop n line) next)
