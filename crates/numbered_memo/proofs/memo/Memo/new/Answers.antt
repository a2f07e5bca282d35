use Rattle.numbered_memo.proofs.MemoLemmas.{count-nothing}
use Rattle.numbered_memo.proofs.memo.Memo.new.Goals as goal

pub invariant_of-result : goal.invariant_of-result
invariant_of-result g c =
    (count-nothing g.T.Meaning.meaning c.new.result.items c.new-2.result.entries c.new.ensures.items c.new-2.ensures.empty, tt)
