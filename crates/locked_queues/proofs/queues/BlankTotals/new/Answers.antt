use Rattle.locked_queues.proofs.SharedSums.{opens}
use Rattle.locked_queues.proofs.queues.BlankTotals.new.Goals as goal

pub of_words-requires : goal.of_words-requires
of_words-requires c = opens 200
