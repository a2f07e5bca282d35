use Rattle.std.proofs.Common.{◌≡◌, ◌++◌, ◌∷◌, List, [], ℕ, length, ap, subst, ◌∙◌}
use Rattle.router.specs.Plan.{Plan}
use Rattle.reader_core.specs.declared.kind.ReaderKind.{ReaderKind}
use Rattle.reader_core.specs.declared.kind.ReaderKind.TheVariants.{Line}
use Rattle.relay_core.specs.Relay.{run_of}
use Rattle.replay.specs.LinesRun.{opening, events_of_lines, offers_of_lines}
use Rattle.replay.specs.RunEvents.{EventsHappen}
use Rattle.replay.specs.RunText.{end_text}
use Rattle.replay.proofs.LinesRun.{more-happen}
use Rattle.replay.proofs.lines_run.text_of_lines.Goals as goal

pub returns : goal.returns
returns c = λ size limit begun.
    let start = c.args.world.now in
    let plan = start.plan in
    let form = c.args.form in
    let dests = c.args.dests.now in
    let count = length dests in
    let lines = c.args.lines.items in
    let kinds : List ReaderKind = Line ∷ [] in
    let opened = c.in_ok-open.ensures in
    let middle = c.open.new.world in
    let end = c.happen.new.world in
    let offers = c.waiting-offers.result in
    let sent = more-happen start middle c.send.new.world _ _ opened c.in_ok-send.ensures in
    let all : EventsHappen start end (events_of_lines count lines offers) = more-happen start c.send.new.world end _ _ sent c.in_ok-happen.ensures in
    let waits : offers ≡ offers_of_lines plan size limit count lines =
    subst (λ (p : Plan). offers ≡ offers_of_lines p size limit count lines) opened.plan
    (c.waiting-offers.ensures size limit kinds (opening count lines) (opened.represents size limit kinds [] begun)) in
    let events = events_of_lines count lines offers in
    let reported : c.push_end.new.text.items ≡ c.new-text.result.items ++ end_text form end.plan dests 1 (run_of end.plan size limit kinds events) =
    c.in_ok-push_end.ensures size limit kinds events (all.represents size limit kinds [] begun) in
    let begins : c.push_end.new.text.items ≡ end_text form end.plan dests 1 (run_of end.plan size limit kinds events) =
    reported ∙ ap (λ (l : List ℕ). l ++ end_text form end.plan dests 1 (run_of end.plan size limit kinds events)) c.new-text.ensures.items in
    let ended : c.push_end.new.text.items ≡ end_text form plan dests 1 (run_of plan size limit kinds events) =
    subst (λ (p : Plan). c.push_end.new.text.items ≡ end_text form p dests 1 (run_of p size limit kinds events)) all.plan begins in
    subst (λ (n : ℕ). c.push_end.new.text.items ≡ end_text form plan dests 1 (run_of plan size limit kinds (events_of_lines count lines n))) waits ended
