-- The report of a relay.
use Rattle.std.specs.Prelude.{ℕ, List, ◌++◌, flat_map, codes, decimal}
use Rattle.conf_text.specs.Destination.{Destination, destination_text}
use Rattle.dest_queue.specs.declared.counts.Counts.{Counts}

-- what a queue has counted, a word and a number each
abbrev pub count_words : Counts → List ℕ
count_words c =
    codes " queued " ++ decimal c.queued ++ codes " offered " ++ decimal c.offered
    ++ codes " kept " ++ decimal c.kept ++ codes " dropped " ++ decimal c.dropped
    ++ codes " taken " ++ decimal c.taken

-- the line of a destination
abbrev pub destination_line : Destination → Counts → List ℕ
destination_line d c = codes "destination " ++ destination_text d ++ count_words c ++ codes "\n"

-- a line for each destination, in the order given
abbrev pub report_text : List (Destination × Counts) → List ℕ
report_text lines = flat_map (λ line. destination_line line.0 line.1) lines
