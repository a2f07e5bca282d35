use Rattle.std.proofs.Common.{◌≡◌, take}
use Rattle.std.specs.String.{string_bytes}
use Rattle.admin_report.specs.FileReport.{file_report}
use Rattle.admin_report.proofs.file_report.text_of.Given as goal

-- the lines before this one are there
abbrev pub invariant-loop-line : goal.invariant-loop-line
invariant-loop-line l = string_bytes l.text ≡ file_report (take l.line-index l.lines)
