use Rattle.std.proofs.Common.{sym}
use Rattle.dest_queue.proofs.Replaying.{taken_since, points_since, taken_of_these}
use Rattle.dest_queue.proofs.past.PastQueue.make_room.Goals as goal

pub seal-requires-clause-taken : goal.seal-requires-clause-taken
seal-requires-clause-taken c = taken_since _ _ _ _ c.requires.past.leads.replays

pub seal-requires-clause-taken_of_these : goal.seal-requires-clause-taken_of_these
seal-requires-clause-taken_of_these c = taken_of_these _ _ _ _ c.requires.past.leads.replays

pub seal-requires-clause-points : goal.seal-requires-clause-points
seal-requires-clause-points c = sym (points_since _ _ _ _ c.requires.past.leads.replays)
