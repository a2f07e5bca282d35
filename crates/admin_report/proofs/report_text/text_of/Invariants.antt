use Rattle.std.proofs.Common.{◌≡◌, take}
use Rattle.std.specs.String.{string_bytes}
use Rattle.admin_report.specs.ReportText.{report_text}
use Rattle.admin_report.proofs.report_text.text_of.Given as goal

-- the lines before this one are there
abbrev pub invariant-loop-dest : goal.invariant-loop-dest
invariant-loop-dest l = string_bytes l.text ≡ report_text (take l.dest-index l.lines)
