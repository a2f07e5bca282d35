use Rattle.std.proofs.Common.{◌≡◌, ◌++◌, List, [], ℕ, Vec, Global, length, ap, subst, ◌∙◌}
use Rattle.std.specs.String.{string_bytes}
use Rattle.router.specs.Plan.{Plan}
use Rattle.replay.specs.ScriptEvent.{NumberedEvent}
use Rattle.reader_core.specs.PlanConfiguration.{configuration_of}
use Rattle.reader_core.specs.declared.kind.ReaderKind.{ReaderKind}
use Rattle.reader_core.specs.Kinds.{relay_reading}
use Rattle.relay_core.specs.Run.{Run, start_of}
use Rattle.relay_core.specs.Relay.{run_of}
use Rattle.relay_core.specs.WorldModel.{RepresentsRun}
use Rattle.replay.specs.RunText.{events_of, not_now_lines, end_text, run_of_script}
use Rattle.replay.proofs.run_text.text_of_script.Goals as goal

two-parts : (a b start text : List ℕ) → start ≡ a → text ≡ start ++ b → text ≡ a ++ b
two-parts a b start text p q = q ∙ ap (λ (l : List ℕ). l ++ b) p

pub returns : goal.returns
returns c = λ size limit begun.
    let script = c.args.script.now in
    let start = c.args.world.now in
    let plan = start.plan in
    let form = c.args.form in
    let dests = c.args.dests.now in
    let run : Run = run_of_script plan size limit script in
    let came = c.in_ok-apply_all.ensures.come in
    let end = c.apply_all.new.world in
    let kinds = script.kinds in
    let evs = events_of script.events in
    let represents : RepresentsRun end size limit kinds evs =
    subst (λ (l : List NumberedEvent). RepresentsRun end size limit kinds (events_of l)) c.events.ensures (came.represents size limit kinds [] begun) in
    let lines : string_bytes c.apply_all.new.text ≡ not_now_lines run.configuration (start_of relay_reading run) script.events =
    subst (λ (l : List NumberedEvent). string_bytes c.apply_all.new.text ≡ not_now_lines run.configuration (start_of relay_reading run) l) c.events.ensures
    (came.text size limit kinds [] begun
    ∙ ap (λ (x : List ℕ). x ++ not_now_lines (configuration_of plan size limit) (start_of relay_reading (run_of plan size limit kinds [])) c.events.result.now) c.new-text.ensures.bytes) in
    let bytes : c.into_bytes-bytes.result.items ≡ string_bytes c.apply_all.new.text = ap (λ (v : Vec ℕ Global). v.items) c.into_bytes-bytes.ensures.value in
    let ended : c.push_end.new.text.items ≡ c.into_bytes-bytes.result.items ++ end_text form plan dests (length kinds) run =
    subst (λ (k : List ReaderKind). c.push_end.new.text.items ≡ c.into_bytes-bytes.result.items ++ end_text form plan dests (length k) run) c.kinds.ensures.kinds
    (subst (λ (p : Plan). c.push_end.new.text.items ≡ c.into_bytes-bytes.result.items ++ end_text form p dests (length c.kinds.result.now) (run_of p size limit kinds evs)) came.plan
    (c.in_ok-push_end.ensures size limit kinds evs represents)) in
    two-parts _ _ _ _ (bytes ∙ lines) ended
