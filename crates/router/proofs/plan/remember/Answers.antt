use Rattle.router.proofs.Known.{right_kept}
use Rattle.router.proofs.plan.remember.Goals as goal

pub returns-clause-recent : goal.returns-clause-recent
returns-clause-recent c = λ rewrite routing right all.
    right_kept rewrite routing c.args.recent.now (c.args.key, c.args.route) c.put.new.self c.put.ensures all right
