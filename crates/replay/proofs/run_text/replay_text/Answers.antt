use Rattle.std.proofs.Common.{◌≡◌, List, [], subst}
use Rattle.std.proofs.lemmas.Result.{IfOk-from_err, IfOk-weaker}
use Rattle.router.specs.Plan.{Plan}
use Rattle.reader_core.specs.declared.kind.ReaderKind.{ReaderKind}
use Rattle.relay_core.specs.WorldModel.{RepresentsRun}
use Rattle.replay.specs.RunText.{replay_text}
use Rattle.replay.proofs.run_text.replay_text.Goals as goal

pub returns-in_err-world : goal.returns-in_err-world
returns-in_err-world c = IfOk-from_err _ _ c.from_residual.ensures.0

pub returns : goal.returns
returns c =
    let made = c.in_ok-world.ensures in
    let world = c.in_ok-world.world in
    let begun = subst (λ (k : List ReaderKind). RepresentsRun world c.args.size c.args.limit k []) c.kinds.ensures.kinds made.represents in
    IfOk-weaker c.text_of_script-text.result _ _
    (λ text is. subst (λ (p : Plan). text.items ≡ replay_text c.args.form p c.args.size c.args.limit c.args.dests.now c.args.script.now)
    made.plan (is c.args.size c.args.limit begun))
    c.text_of_script-text.ensures
