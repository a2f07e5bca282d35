use Rattle.std.proofs.Common.{◌≡◌, length}
use Rattle.conf_text.specs.SettingRules.{has_repeat, same_by}
use Rattle.conf_text.proofs.setting_rules.has_repeat.Given as goal

abbrev pub invariant-loop-first : goal.invariant-loop-first
invariant-loop-first l = has_repeat (same_by l.method) l.rest ≡ has_repeat (same_by l.method) l.dests

abbrev pub decreases-loop-first : goal.decreases-loop-first
decreases-loop-first l = length l.rest
