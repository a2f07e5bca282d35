use Rattle.replay.proofs.LinesRun.{more-happen}
use Rattle.replay.proofs.lines_run.hand_to.Goals as goal

pub returns : goal.returns
returns c = more-happen c.args.world.now c.happen.new.world c.write_to.new.world _ _ c.in_ok-happen.ensures c.in_ok-write_to.ensures
