-- Each step keeps a queue balanced.
use Rattle.std.proofs.Common.{ℕ, arith}
use Rattle.std.proofs.lemmas.Grind.{common_steps}
use Rattle.line_text.specs.Datapoint.{Datapoint}
use Rattle.dest_queue.specs.Queue.{Queue, queue_after_offer, queue_after_take}
use Rattle.dest_queue.specs.Balance.{IsBalanced}

pub balanced_offered : (size reader : ℕ) (point : Datapoint) (q : Queue) → IsBalanced size q → IsBalanced size (queue_after_offer size reader point q)
balanced_offered size reader point q holds = grind (arith, common_steps)

pub balanced_taken : (size limit : ℕ) (q : Queue) → IsBalanced size q → IsBalanced size (queue_after_take limit q)
balanced_taken size limit q holds = grind (arith, common_steps)
