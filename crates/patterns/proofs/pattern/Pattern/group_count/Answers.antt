use Rattle.std.proofs.Common.{Option, Some, option_map, refl, sym, ap, ◌∙◌}
use Rattle.regex.specs.Strings.{regex_source}
use Rattle.patterns.specs.Pattern.{Pattern}
use Rattle.patterns.proofs.PatternLemmas.{pattern_of_regex}
use Rattle.patterns.proofs.pattern.Pattern.group_count.Goals as goal

pub returns : goal.returns
returns c =
    let own = c.self.inside in
    let found = pattern_of_regex own.case (regex_source own.regex.now) own.regex.now (record { source = refl; config = c.self.invariant.config; read = c.self.invariant.read }) in
    rw (← c.self.view_is)
    (ap (λ (o : Option Pattern). option_map (λ pattern. pattern.groups) o) found.is_read ∙ ap Some (sym (c.captures_len.ensures.names ∙ found.count)))
