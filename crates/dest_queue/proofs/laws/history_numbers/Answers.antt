use Rattle.dest_queue.proofs.Numbers.{numbers_since}
use Rattle.dest_queue.proofs.laws.history_numbers.Goals as goal

pub returns : goal.returns
returns c = λ size reader base end history goes. numbers_since size reader base end history goes
