use Rattle.std.proofs.Common.{ℕ, drop, ap, ◌∙◌}
use Rattle.spool.proofs.KeptLemmas.{left-from_start}
use Rattle.spool.proofs.kept_lines.KeptLines.pass_taken.Goals as goal

pub returns-clause-lines : goal.returns-clause-lines
returns-clause-lines c = λ over taken way.
    ap (λ s. s.left) (c.self-2.view_is ∙ c.pass.ensures)
    ∙ ap (λ (n : ℕ). drop n c.args.self.now.left) (c.start-taken.ensures ∙ ap (λ s. s.sent.start) c.self.view_is)
    ∙ left-from_start c.left_from_place.ensures c.args.self.now.left over taken c.args.self.now.sent way
