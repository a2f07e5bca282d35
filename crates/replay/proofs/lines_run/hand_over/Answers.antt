use Rattle.replay.specs.LinesRun.{hands_to}
use Rattle.replay.proofs.LinesRun.{none-happen, next-happen}
use Rattle.replay.proofs.lines_run.hand_over.Goals as goal

pub loop-dest-init : goal.loop-dest-init
loop-dest-init c = none-happen c.args.world.now

pub loop-dest-preserved : goal.loop-dest-preserved
loop-dest-preserved c =
    next-happen hands_to c.loop-dest.dest c.args.world.now c.loop-dest.world c.hand_to.new.world c.loop-dest.invariant c.in_ok-hand_to.ensures
