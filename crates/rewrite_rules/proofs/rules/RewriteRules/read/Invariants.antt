use Rattle.std.proofs.Common.{◌≡◌, length}
use Rattle.rewrite_rules.specs.File.{meanings_of}
use Rattle.rewrite_rules.proofs.FileLemmas.{IsReadUpTo}
use Rattle.rewrite_rules.proofs.rules.RewriteRules.read.Given as goal

abbrev pub invariant-loop-line : goal.invariant-loop-line
invariant-loop-line l =
    (l.number ≡ length l.yielded) × IsReadUpTo (meanings_of l.text) (length l.yielded) l.sections.section l.sections.pre.items l.sections.post.items
