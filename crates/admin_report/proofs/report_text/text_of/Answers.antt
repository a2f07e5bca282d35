use Rattle.std.proofs.Common.{◌≡◌, ℕ, ◌+◌, ◌<◌, ◌++◌, ◌∷◌, [], List, length, take, get_or, ap, sym, ◌∙◌, append-nil}
use Rattle.std.proofs.lemmas.List.{take_more}
use Rattle.std.proofs.lemmas.Grind.{flat_map-append}
use Rattle.conf_text.specs.Destination.{Destination}
use Rattle.dest_queue.specs.declared.counts.Counts.{Counts}
use Rattle.admin_report.specs.ReportText.{destination_line, report_text}
use Rattle.admin_report.proofs.report_text.text_of.Goals as goal

-- one line more
abbrev next : (lines : List (Destination × Counts)) (i : ℕ) (none : Destination × Counts) → i < length lines → report_text (take (i + 1) lines) ≡ report_text (take i lines) ++ destination_line (get_or lines i none).0 (get_or lines i none).1
next lines i none below =
    ap report_text (take_more lines i none below)
    ∙ flat_map-append (λ line. destination_line line.0 line.1) (take i lines) (get_or lines i none ∷ [])
    ∙ ap (λ (l : List ℕ). report_text (take i lines) ++ l) (append-nil (destination_line (get_or lines i none).0 (get_or lines i none).1))

pub loop-dest-preserved : goal.loop-dest-preserved
loop-dest-preserved c =
    let lines = c.args.lines.now in
    let i = c.loop-dest.dest-index in
    let line = c.loop-dest-item.result in
    let is : line ≡ get_or lines i line = c.loop-dest-item.is in
    c.in_ok-push_line.ensures
    ∙ ap (λ (l : List ℕ). l ++ destination_line line.0 line.1) c.loop-dest.invariant
    ∙ ap (λ (d : Destination × Counts). report_text (take i lines) ++ destination_line d.0 d.1) is
    ∙ sym (next lines i line c.loop-dest-test.true)
