use Rattle.std.proofs.Common.{ℕ, List, length, drop, ap, ◌∙◌, arith}
use Rattle.spool.proofs.KeptLemmas.{all-go_on, all-end}
use Rattle.spool.proofs.kept_lines.KeptLines.send.Goals as goal

pub returns-clause-kept : goal.returns-clause-kept
returns-clause-kept g c =
    let text = c.split_at.result.1.now in
    all-go_on g.W.Write.contents text c.args.self.now.left (length text) c.self.inside.sent c.args.self.now.sent c.send.new.cursor c.args.connection.now.sink c.send.new.self.sink
    (c.split_at.ensures.back ∙ ap (λ (l : List ℕ). drop c.self.inside.passed l) c.deref.ensures.value ∙ ap (λ s. s.left) c.self.view_is)
    (ap (λ s. s.sent) c.self.view_is)
    (omega arith)
    c.send.ensures.kept

pub returns-clause-lines : goal.returns-clause-lines
returns-clause-lines g c =
    let text = c.split_at.result.1.now in
    all-end g.W.Write.contents text c.args.self.now.left (length text) c.self.inside.sent c.args.self.now.sent c.args.connection.now.sink c.send.result
    (c.split_at.ensures.back ∙ ap (λ (l : List ℕ). drop c.self.inside.passed l) c.deref.ensures.value ∙ ap (λ s. s.left) c.self.view_is)
    (ap (λ s. s.sent) c.self.view_is)
    (omega arith)
    c.send.ensures.lines
