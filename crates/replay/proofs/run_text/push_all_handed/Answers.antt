use Rattle.std.proofs.Common.{◌++◌, List, ℕ, ap, sym, ◌∙◌}
use Rattle.std.proofs.lemmas.List.{append_assoc}
use Rattle.std.proofs.lemmas.Result.{IfOk-from_err}
use Rattle.relay_core.specs.Relay.{run_of}
use Rattle.replay.specs.RunText.{of_each, handed_lines, handed_text}
use Rattle.replay.proofs.RunLines.{of_each-next}
use Rattle.replay.proofs.run_text.push_all_handed.Goals as goal

pub returns-in_err-push_connections : goal.returns-in_err-push_connections
returns-in_err-push_connections c = IfOk-from_err _ _ c.from_residual.ensures.0

pub loop-dest-preserved : goal.loop-dest-preserved
loop-dest-preserved c = λ size limit kinds events represents.
    let run = run_of c.args.world.now.plan size limit kinds events in
    let form = c.args.form in
    let d = c.loop-dest.dest in
    let first = c.args.text.now.items in
    let so_far = of_each (handed_text form run) d in
    c.in_ok-push_connections.ensures
    ∙ ap (λ (l : List (List ℕ)). c.loop-dest.text.items ++ handed_lines form d 0 l) (c.handed.ensures size limit kinds events represents)
    ∙ ap (λ (l : List ℕ). l ++ handed_text form run d) (c.loop-dest.invariant size limit kinds events represents)
    ∙ append_assoc first so_far (handed_text form run d)
    ∙ ap (λ (l : List ℕ). first ++ l) (sym (of_each-next (handed_text form run) d))
