use Rattle.std.proofs.Common.{subst}
use Rattle.std.proofs.lemmas.Result.{IfOk-weaker}
use Rattle.std.specs.String.{string_bytes}
use Rattle.router.specs.Plan.{Plan}
use Rattle.run_record.specs.PartEvents.{parts_of}
use Rattle.run_record.specs.RunScript.{IsScriptOfRun}
use Rattle.run_record.proofs.script.script_of_run.Goals as goal

pub returns : goal.returns
returns c =
    let made = c.in_ok-world.ensures in
    IfOk-weaker c.script_by-text.result _ _
    (λ text is. subst (λ (p : Plan). IsScriptOfRun p c.args.size c.args.limit (parts_of c.args.parts.now) (string_bytes text))
    made.plan (is c.args.size made.represents))
    c.script_by-text.ensures
