use Rattle.router.proofs.Known.{right_kept, right_copy}
use Rattle.router.proofs.plan.keep_share.Goals as goal

pub returns-in-Ok : goal.returns-in-Ok
returns-in-Ok c = λ rewrite routing right all.
    right_kept rewrite routing c.args.names.now c.in-Ok.entry c.keep.new.self c.keep.ensures all
    (right_copy rewrite routing c.args.key.now c.args.route.now c.in-Ok.entry c.in-Ok.ensures.0 c.in-Ok.ensures.1 right)
