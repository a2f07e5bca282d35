use Rattle.std.proofs.Common.{sym, ◌∙◌}
use Rattle.locked_queues.proofs.SharedSums.{splits_nothing}
use Rattle.locked_queues.proofs.shares.Shares.none.Goals as goal

pub split_seat-seat-requires : goal.split_seat-seat-requires
split_seat-seat-requires g c = (c.requires.first ∙ sym c.requires.table.0, c.requires.table.1, λ s h e. splits_nothing s.views _ _ h e)
