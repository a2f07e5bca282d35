use Rattle.std.proofs.Common.{refl}
use Rattle.regex.specs.Strings.{regex_source}
use Rattle.patterns.proofs.PatternLemmas.{pattern_of_regex, is_found-by, replaced_text-is}
use Rattle.patterns.proofs.pattern.Pattern.replace.Goals as goal

pub returns-clause-text : goal.returns-clause-text
returns-clause-text c =
    let own = c.self.inside in
    let text = c.args.text.now in
    let found = pattern_of_regex own.case (regex_source own.regex.now) own.regex.now (record { source = refl; config = c.self.invariant.config; read = c.self.invariant.read }) in
    let same = replaced_text-is own.case (regex_source own.regex.now) _ _ found text (λ k. (c.type_inv.text k).fits) c.args.parts.now in
    rw (c.deref_mut.ensures.value, c.self.invariant.searches, same, c.self.view_is) at c.replace_all.ensures.text

pub returns-clause-some : goal.returns-clause-some
returns-clause-some c =
    let own = c.self.inside in
    let text = c.args.text.now in
    let found = pattern_of_regex own.case (regex_source own.regex.now) own.regex.now (record { source = refl; config = c.self.invariant.config; read = c.self.invariant.read }) in
    let same = is_found-by own.case (regex_source own.regex.now) _ _ found text (λ k. (c.type_inv.text k).fits) in
    rw (c.deref_mut.ensures.value, c.self.invariant.searches, same, c.self.view_is) at c.replace_all.ensures.some
