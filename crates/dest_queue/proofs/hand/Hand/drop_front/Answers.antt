use Rattle.dest_queue.proofs.hand.Hand.drop_front.Goals as goal

pub returns-clause-points : goal.returns-clause-points
returns-clause-points c = rw (← c.self.view_is) c.drop_first.ensures.left
