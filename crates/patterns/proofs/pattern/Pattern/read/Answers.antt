use Rattle.std.proofs.Common.{is_some, ap}
use Rattle.patterns.proofs.PatternLemmas.{pattern_of_regex}
use Rattle.patterns.proofs.pattern.Pattern.read.Goals as goal

pub returns-clause-pattern : goal.returns-clause-pattern
returns-clause-pattern c = ap is_some (pattern_of_regex c.args.case c.args.text.now c.in_ok-regex.regex c.in_ok-regex.ensures).is_read
