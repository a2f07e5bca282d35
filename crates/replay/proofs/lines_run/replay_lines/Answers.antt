use Rattle.std.proofs.Common.{◌≡◌, subst}
use Rattle.std.proofs.lemmas.Result.{IfOk-from_err, IfOk-weaker}
use Rattle.router.specs.Plan.{Plan}
use Rattle.replay.specs.LinesRun.{lines_text}
use Rattle.replay.proofs.lines_run.replay_lines.Goals as goal

pub returns-in_err-world : goal.returns-in_err-world
returns-in_err-world c = IfOk-from_err _ _ c.from_residual.ensures.0

pub returns : goal.returns
returns c =
    let made = c.in_ok-world.ensures in
    IfOk-weaker c.text_of_lines-text.result _ _
    (λ text is. subst (λ (p : Plan). text.items ≡ lines_text c.args.form p c.args.size c.args.limit c.args.dests.now c.args.lines.items)
    made.plan (is c.args.size c.args.limit made.represents))
    c.text_of_lines-text.ensures
