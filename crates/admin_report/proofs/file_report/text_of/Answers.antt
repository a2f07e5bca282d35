use Rattle.std.proofs.Common.{◌≡◌, ℕ, ◌+◌, ◌<◌, ◌++◌, ◌∷◌, [], List, length, take, get_or, ap, sym, ◌∙◌, append-nil}
use Rattle.std.proofs.lemmas.List.{take_more}
use Rattle.std.proofs.lemmas.Grind.{flat_map-append}
use Rattle.admin_report.specs.declared.file_report.ReportLine.{ReportLine}
use Rattle.admin_report.specs.FileReport.{file_line, file_report}
use Rattle.admin_report.proofs.file_report.text_of.Goals as goal

-- one line more
abbrev next : (lines : List ReportLine) (i : ℕ) (none : ReportLine) → i < length lines → file_report (take (i + 1) lines) ≡ file_report (take i lines) ++ file_line (get_or lines i none)
next lines i none below =
    ap file_report (take_more lines i none below)
    ∙ flat_map-append file_line (take i lines) (get_or lines i none ∷ [])
    ∙ ap (λ (l : List ℕ). file_report (take i lines) ++ l) (append-nil (file_line (get_or lines i none)))

pub loop-line-preserved : goal.loop-line-preserved
loop-line-preserved c =
    let lines = c.args.lines.now in
    let i = c.loop-line.line-index in
    let line = c.line-item.result in
    let is : line ≡ get_or lines i line = c.line-item.is in
    c.in_ok-push_line.ensures
    ∙ ap (λ (l : List ℕ). l ++ file_line line) c.loop-line.invariant
    ∙ ap (λ (d : ReportLine). file_report (take i lines) ++ file_line d) is
    ∙ sym (next lines i line c.loop-line-test.true)
