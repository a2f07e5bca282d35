use Rattle.std.proofs.Common.{is_some, refl, ap, ◌∙◌}
use Rattle.regex.specs.Patterns.{Re, find_str}
use Rattle.regex.specs.Strings.{regex_source, matcher_pattern}
use Rattle.patterns.proofs.PatternLemmas.{pattern_of_regex, is_found-by}
use Rattle.patterns.proofs.pattern.Pattern.is_found.Goals as goal

pub returns-clause-found : goal.returns-clause-found
returns-clause-found c =
    let own = c.self.inside in
    let text = c.args.text.now in
    let found = pattern_of_regex own.case (regex_source own.regex.now) own.regex.now (record { source = refl; config = c.self.invariant.config; read = c.self.invariant.read }) in
    rw (← c.self.view_is)
    (c.is_match.ensures.found
    ∙ ap (λ (re : Re). is_some (find_str re text 0)) (ap matcher_pattern c.deref_mut.ensures.value ∙ c.self.invariant.searches)
    ∙ is_found-by own.case (regex_source own.regex.now) _ _ found text (λ k. (c.type_inv.text k).fits))
