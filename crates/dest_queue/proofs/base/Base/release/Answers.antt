use Rattle.std.proofs.Common.{◌≡◌, ◌+◌, ◌-◌, arith}
use Rattle.std.proofs.lemmas.Grind.{common_steps}
use Rattle.std.proofs.lemmas.List.{drop-drop}
use Rattle.dest_queue.proofs.base.Base.release.Goals as goal

pub returns : goal.returns
returns c =
    let sum : c.min-count.result + (c.self.inside.dead - c.min-count.result) ≡ c.self.inside.dead = grind (arith, common_steps) in
    rw (c.release_front.ensures.left, c.release_front.ensures.capacity, drop-drop, sum) (grind (arith, common_steps))
