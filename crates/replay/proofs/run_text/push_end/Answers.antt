use Rattle.std.proofs.Common.{◌≡◌, ◌++◌, List, ℕ, ap, ◌∙◌}
use Rattle.std.proofs.lemmas.List.{append_assoc}
use Rattle.conf_text.specs.Destination.{Destination}
use Rattle.dest_queue.specs.declared.counts.Counts.{Counts}
use Rattle.relay_core.specs.Relay.{run_of}
use Rattle.admin_report.specs.ReportText.{report_text}
use Rattle.replay.specs.RunText.{of_each, counts_text, reader_text}
use Rattle.replay.proofs.run_text.push_end.Goals as goal

three-parts : (start a b c handed counts text : List ℕ) → handed ≡ start ++ a → counts ≡ handed ++ b → text ≡ counts ++ c
    → text ≡ start ++ (a ++ b ++ c)
three-parts start a b c handed counts text p q r =
    r ∙ rw (q, p) (ap (λ (l : List ℕ). l ++ c) (append_assoc start a b) ∙ append_assoc start (a ++ b) c)

pub returns : goal.returns
returns c = λ size limit kinds events represents.
    let plan = c.args.world.now.plan in
    let dests = c.args.dests.now in
    let run = run_of plan size limit kinds events in
    let handed = c.in_ok-push_all_handed.ensures size limit kinds events represents in
    let pairs = c.in_ok-with_counts.ensures size limit kinds events represents in
    let counts : c.report.new.out.items ≡ c.push_all_handed.new.text.items ++ counts_text run dests =
    c.in_ok-report.ensures.report
    ∙ ap (λ (l : List (Destination × Counts)). c.push_all_handed.new.text.items ++ report_text l) (c.deref.ensures.value ∙ pairs) in
    let readers = c.in_ok-lines.ensures size limit kinds events represents in
    let text : c.extend_from_slice.new.self.items ≡ c.report.new.out.items ++ of_each (reader_text plan run) c.args.readers =
    c.in_ok-extend_from_slice.ensures.items ∙ ap (λ (x : List ℕ). c.report.new.out.items ++ x) (c.as_bytes.ensures.value ∙ c.as_str.ensures.value ∙ readers) in
    three-parts _ _ _ _ _ _ _ handed counts text
