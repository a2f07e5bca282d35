-- The report of a relay that keeps files.
use Rattle.std.specs.Prelude.{ℕ, List, [], ◌++◌, Option, None, Some, flat_map, codes, decimal}
use Rattle.conf_text.specs.Destination.{destination_text}
use Rattle.admin_report.specs.ReportText.{count_words}
use Rattle.admin_report.specs.declared.file_report.FileCounts.{FileCounts}
use Rattle.admin_report.specs.declared.file_report.ReportLine.{ReportLine}

-- what waits in a file, a word and a number each
abbrev pub file_words : FileCounts → List ℕ
file_words f =
    codes " spool_datapoints " ++ (decimal f.datapoints ++ (codes " spool_bytes " ++ (decimal f.bytes
    ++ (codes " spool_age_seconds " ++ decimal f.age))))

-- these words, if something waits
abbrev pub waiting_words : Option FileCounts → List ℕ
waiting_words None = []
waiting_words (Some f) = file_words f

-- the line of a destination: what its queue has counted, and what waits in its file, if something does
abbrev pub file_line : ReportLine → List ℕ
file_line l =
    codes "destination " ++ destination_text l.dest ++ count_words l.counts ++ waiting_words l.file ++ codes "\n"

-- a line for each destination, in the order given
abbrev pub file_report : List ReportLine → List ℕ
file_report lines = flat_map file_line lines
