use Rattle.std.proofs.Common.{ap, ◌∙◌, arith}
use Rattle.std.specs.List.{swap_remove}
use Rattle.numbered_memo.proofs.MemoLemmas.{swapped}
use Rattle.numbered_memo.proofs.memo.replace_at.Goals as goal

pub returns-clause-ok : goal.returns-clause-ok
returns-clause-ok g c =
    c.swap_remove.ensures.items
    ∙ ap (λ xs. swap_remove xs c.args.place c.swap_remove.result) c.in_ok-push.ensures.items
    ∙ swapped c.args.values.now.items c.args.place c.args.stored c.swap_remove.result (omega arith)
