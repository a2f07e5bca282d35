use Rattle.std.proofs.Common.{◌∷◌, []}
use Rattle.relay_core.specs.World.{Up}
use Rattle.replay.proofs.LinesRun.{none-happen, next-happen}
use Rattle.replay.proofs.lines_run.connect.Goals as goal

pub loop-dest-init : goal.loop-dest-init
loop-dest-init c = none-happen c.args.world.now

pub loop-dest-preserved : goal.loop-dest-preserved
loop-dest-preserved c =
    next-happen (λ d. Up d ∷ []) c.loop-dest.dest c.args.world.now c.loop-dest.world c.happen.new.world c.loop-dest.invariant c.in_ok-happen.ensures
