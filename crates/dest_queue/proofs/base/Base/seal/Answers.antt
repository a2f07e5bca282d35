use Rattle.std.proofs.Common.{◌≡◌, ◌*◌, ◌+◌, ◌-◌, map, drop, refl, arith}
use Rattle.std.proofs.lemmas.Grind.{common_steps}
use Rattle.dest_queue.specs.Queue.{most_steps}
use Rattle.dest_queue.specs.History.{count_taken}
use Rattle.dest_queue.specs.Step.{recorded_of}
use Rattle.dest_queue.proofs.base.Base.seal.Goals as goal

pub returns-clause-queue : goal.returns-clause-queue
returns-clause-queue c =
    let taken : c.args.current.now.tally.taken - c.self.inside.tally.taken ≡ count_taken (map recorded_of c.args.history.now.items) = grind (arith, common_steps) in
    let points : drop (count_taken (map recorded_of c.args.history.now.items)) c.share_points.new.points.items ≡ c.args.current.now.points.items
    = rw (c.share_points.ensures.points, c.lie_in_front.ensures.same, c.release_front.ensures.left) (grind (arith, common_steps, c.requires.points, c.self.view_is)) in
    let steps : most_steps * (c.self.inside.seals + 1) ≡ c.args.self.now.queue.recorded + most_steps = grind (arith, common_steps) in
    rw (taken, points, c.copy_from.ensures.offered, c.copy_from.ensures.kept, c.copy_from.ensures.dropped, c.copy_from.ensures.taken, c.copy_from.ensures.next, steps) refl
