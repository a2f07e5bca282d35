use Rattle.std.proofs.Common.{◌≡◌, ℕ, ap, ◌∙◌, arith, append_assoc}
use Rattle.std.proofs.lemmas.Option.{same_Some}
use Rattle.regex.proofs.CapturesLemmas.{group_span-zero}
use Rattle.patterns.specs.Left.{start_of}
use Rattle.patterns.proofs.replacing.append_match.Goals as goal

pub range-requires-clause-start_le_end : goal.range-requires-clause-start_le_end
range-requires-clause-start_le_end c =
    let whole = same_Some _ _ (c.get_match.ensures.found ∙ group_span-zero _ _ _ _) in
    let is : c.start.result ≡ start_of c.args.captures.now = c.start.ensures ∙ ap (λ (s : ℕ × ℕ). s.0) whole in
    omega (arith, is, c.requires.ordered)

pub returns : goal.returns
returns c =
    let whole = same_Some _ _ (c.get_match.ensures.found ∙ group_span-zero _ _ _ _) in
    let is : c.start.result ≡ start_of c.args.captures.now = c.start.ensures ∙ ap (λ (s : ℕ × ℕ). s.0) whole in
    rw (c.in_ok-push_str.ensures.bytes, c.range.ensures.value, is, append_assoc) at c.append_parts.ensures
