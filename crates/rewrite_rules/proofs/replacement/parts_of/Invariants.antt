use Rattle.std.proofs.Common.{◌≡◌, ◌++◌, length, option_map}
use Rattle.rewrite_rules.specs.Replacement.{parts_of}
use Rattle.rewrite_rules.proofs.replacement.parts_of.Given as goal

abbrev pub invariant-loop-first : goal.invariant-loop-first
invariant-loop-first l = parts_of l.groups l.text ≡ option_map (λ ps. l.parts.items ++ ps) (parts_of l.groups l.rest)

abbrev pub decreases-loop-first : goal.decreases-loop-first
decreases-loop-first l = length l.rest
