-- The lines for what a receiver has counted, and for look-ups.
use Rattle.std.specs.Prelude.{ℕ, List, [], ◌++◌, ◌==◌, ◌&&◌, Bool, true, if◌then◌else◌, codes, decimal}
use Rattle.conf_text.specs.Destination.{Destination, destination_text}
use Rattle.log_lines.specs.declared.receiver_counts.ReceiverCounts.{ReceiverCounts}
use Rattle.log_lines.specs.declared.logged_counts.RefusalEvent.{RefusalEvent}
use Rattle.log_lines.specs.declared.logged_counts.RefusalEvent.TheVariants as refusal
use Rattle.log_lines.specs.declared.logged_lookup.LookupEvent.{LookupEvent}
use Rattle.log_lines.specs.declared.logged_lookup.LookupEvent.TheVariants as lookup

abbrev pub mark : Bool → List ℕ
mark is_first = if is_first then codes ": " else codes ", "

abbrev pub plural : ℕ → List ℕ
plural count = if count == 1 then [] else codes "s"

-- the number of one kind; nothing if there were none
abbrev pub kind_words : Bool → ℕ → List ℕ → List ℕ
kind_words is_first count kind =
    if count == 0 then []
    else mark is_first ++ decimal count ++ codes " " ++ kind ++ plural count

abbrev pub bad_words : ReceiverCounts → List ℕ
bad_words counts =
    kind_words true counts.readers.faults.bad_lines (codes "bad line")
    ++ kind_words (counts.readers.faults.bad_lines == 0) counts.readers.faults.bad_pickles (codes "bad pickle")
    ++ kind_words ((counts.readers.faults.bad_lines == 0) && (counts.readers.faults.bad_pickles == 0)) counts.readers.faults.bad_rows (codes "bad row")
    ++ kind_words (((counts.readers.faults.bad_lines == 0) && (counts.readers.faults.bad_pickles == 0)) && (counts.readers.faults.bad_rows == 0))
    counts.readers.faults.bad_names (codes "bad name")

-- the line for the bad input of a receiver of a name
abbrev pub counts_line : List ℕ → ReceiverCounts → List ℕ
counts_line name counts = codes "receiver " ++ name ++ bad_words counts ++ codes "\n"

abbrev pub refusal_words : RefusalEvent → List ℕ
refusal_words refusal.BeginsToRefuse = codes "has 1,024 connections, refusing more"
refusal_words (refusal.RefusesNoMore refused) = codes "stopped refusing, refused " ++ decimal refused

-- the line for the connections that a receiver of a name refuses
abbrev pub refusals_line : List ℕ → RefusalEvent → List ℕ
refusals_line name event = codes "receiver " ++ name ++ codes " " ++ refusal_words event ++ codes "\n"

abbrev pub lookup_words : LookupEvent → List ℕ
lookup_words lookup.Hangs = codes "still looking up its host after a second"
lookup_words lookup.Ended = codes "looked up its host"

-- the line for a look-up of a destination's host
abbrev pub lookup_line : Destination → LookupEvent → List ℕ
lookup_line dest event =
    codes "destination " ++ destination_text dest ++ codes " " ++ lookup_words event ++ codes "\n"
