use Rattle.store_lines.proofs.LeftLemmas.{was-there, none-there, not-gone, left-after_loss}
use Rattle.store_lines.proofs.dest_rests.send_rest.Goals as goal

-- the connection that is given out took the whole rest
pub returns-in-Over-clause-whole : goal.returns-in-Over-clause-whole
returns-in-Over-clause-whole g c =
    let had = was-there c.in-Some.left.sink _ c.in-Over.ensures.whole (λ none. (c.in-Over.ensures.none none).1) in
    (c.in-Some.left, had.0, cc, had.1, had.2)

pub returns-in-Lost-clause-kept : goal.returns-in-Lost-clause-kept
returns-in-Lost-clause-kept g c = rw c.in-Some.is (none-there c.in-Some.left.sink c.lose.new.self.sink _ c.lose.ensures.gone)

pub returns-in-Lost-clause-lost : goal.returns-in-Lost-clause-lost
returns-in-Lost-clause-lost g c =
    rw c.in-Some.is (left-after_loss g.W.Write.contents c.in-Some.left c.send.new.self c.lose.new.self c.in-Some.left.sink c.send.new.self.sink c.in-Lost.ensures.stays c.in-Lost.ensures.kept c.lose.ensures.writer c.lose.ensures.queued)

pub returns-in-Kept-clause-lost : goal.returns-in-Kept-clause-lost
returns-in-Kept-clause-lost g c = rw c.in-Some.is (not-gone c.in-Some.left.sink c.send.new.self.sink _ c.in-Kept.ensures.stays)
