use Rattle.std.proofs.Common.{◌≡◌, ◌+◌, ℕ, ap, ◌∙◌}
use Rattle.std.proofs.lemmas.Option.{same_Some}
use Rattle.regex.proofs.CapturesLemmas.{group_span-zero}
use Rattle.patterns.specs.Left.{end_of}
use Rattle.patterns.proofs.replacing.after_match.Goals as goal

pub returns-clause-value : goal.returns-clause-value
returns-clause-value c =
    let whole = same_Some _ _ (c.get_match.ensures.found ∙ group_span-zero _ _ _ _) in
    let is : c.end.result ≡ end_of c.args.captures.now = c.end.ensures ∙ ap (λ (s : ℕ × ℕ). s.1) whole in
    ap (λ (n : ℕ). n + 1) is
