use Rattle.replay.proofs.LinesRun.{more-happen}
use Rattle.replay.proofs.lines_run.send_one.Goals as goal

pub returns : goal.returns
returns c = more-happen c.args.world.now c.happen.new.world c.hand_over.new.world _ _ c.in_ok-happen.ensures c.in_ok-hand_over.ensures
