use Rattle.std.proofs.Common.{ap, ◌∙◌, arith}
use Rattle.numbered_memo.proofs.MemoLemmas.{memo, memo-pushed, memo-set, memo-others}
use Rattle.numbered_memo.proofs.memo.store.Goals as goal

pub returns-in_ok-replace_at-clause-ok : goal.returns-in_ok-replace_at-clause-ok
returns-in_ok-replace_at-clause-ok g c =
    ap (λ xs. memo g.T.Meaning.meaning xs c.args.others.now.entries) c.in_ok-replace_at.ensures.ok
    ∙ memo-set g.T.Meaning.meaning c.args.first.now.items c.args.others.now.entries c.args.number c.args.stored (omega arith)

pub returns-in_ok-push-clause-ok : goal.returns-in_ok-push-clause-ok
returns-in_ok-push-clause-ok g c =
    ap (λ xs. memo g.T.Meaning.meaning xs c.args.others.now.entries) c.in_ok-push.ensures.items
    ∙ memo-pushed g.T.Meaning.meaning c.args.first.now.items c.args.others.now.entries c.args.number c.args.stored (omega arith)

pub returns-in_ok-insert-clause-ok : goal.returns-in_ok-insert-clause-ok
returns-in_ok-insert-clause-ok g c =
    memo-others g.T.Meaning.meaning c.args.first.now.items c.args.others.now.entries c.insert.new.self.entries c.args.number c.args.stored (omega arith) c.in_ok-insert.ensures.updates.0
