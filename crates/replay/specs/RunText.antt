-- What a replay writes: a function of its configuration and its script.
use Rattle.std.specs.Prelude.{ℕ, zero, suc, ◌+◌, Bool, true, false, List, [], ◌∷◌, ◌++◌, ◌==◌, length, map, codes, decimal}
use Rattle.hex.specs.Hex.{encode_lower}
use Rattle.conf_text.specs.Destination.{Destination}
use Rattle.dest_queue.specs.Counts.{counts_of}
use Rattle.dest_queue.specs.declared.counts.Counts.{Counts}
use Rattle.router.specs.Plan.{Plan}
use Rattle.reader_core.specs.Configuration.{Configuration}
use Rattle.reader_core.specs.Kinds.{relay_reading}
use Rattle.reader_counts.specs.declared.counts.ReaderCounts.{ReaderCounts}
use Rattle.relay_core.specs.World.{WorldState, RunEvent, is_allowed, after, waiting_of}
use Rattle.relay_core.specs.Run.{Run, start_of, dest_in, reader_in}
use Rattle.relay_core.specs.Relay.{run_of, counts_read}
use Rattle.admin_report.specs.ReportText.{report_text}
use Rattle.relay_base.specs.Ascii.{newline}
use Rattle.replay.specs.declared.handed_form.HandedForm.{HandedForm}
use Rattle.replay.specs.declared.handed_form.HandedForm.TheVariants.{Digits, DigitsAndText}
use Rattle.replay.specs.ScriptEvent.{NumberedEvent}
use Rattle.replay.specs.ScriptText.{ScriptText}

-- ---- its lines

-- the line of an event that is no part of the run
abbrev pub not_now_line : ℕ → List ℕ
not_now_line line = codes "not now " ++ decimal line ++ codes "\n"

-- the line of the bytes that a destination's connection of this number got
abbrev pub digits_line : ℕ → ℕ → List ℕ → List ℕ
digits_line d connection bytes =
    codes "handed " ++ decimal d ++ codes " " ++ decimal connection ++ codes " "
    ++ encode_lower bytes ++ codes "\n"

-- the words before each line of these bytes, if they are shown as text
abbrev pub text_head : ℕ → ℕ → List ℕ
text_head d connection = codes "text " ++ decimal d ++ codes " " ++ decimal connection ++ codes " "

abbrev pub head_if : Bool → List ℕ → List ℕ
head_if true head = head
head_if false head = []

abbrev pub newline_unless : Bool → List ℕ
newline_unless true = []
newline_unless false = newline ∷ []

-- bytes with a head before each line, also the first if they begin a line; a last line without its newline gets one
abbrev pub text_lines : List ℕ → Bool → List ℕ → List ℕ
text_lines head starts [] = newline_unless starts
text_lines head starts (b ∷ bytes) = head_if starts head ++ b ∷ text_lines head (b == newline) bytes

-- what shows these bytes
abbrev pub handed_line : HandedForm → ℕ → ℕ → List ℕ → List ℕ
handed_line Digits d connection bytes = digits_line d connection bytes
handed_line DigitsAndText d connection bytes =
    digits_line d connection bytes ++ text_lines (text_head d connection) true bytes

abbrev pub count_words : List ℕ → ℕ → List ℕ
count_words words count = words ++ decimal count

-- what was wrong with a reader's input: with its bytes, and with the datapoints in them
abbrev pub input_words : ReaderCounts → List ℕ
input_words c =
    count_words (codes " bad lines ") c.bad_lines
    ++ count_words (codes " bad pickles ") c.bad_pickles

abbrev pub datapoint_words : ReaderCounts → List ℕ
datapoint_words c =
    count_words (codes " bad rows ") c.bad_rows ++ count_words (codes " bad names ") c.bad_names

abbrev pub fault_words : ReaderCounts → List ℕ
fault_words c = input_words c ++ datapoint_words c

-- the line of a reader, with how many of its offers wait
abbrev pub reader_line : ℕ → ℕ → ReaderCounts → List ℕ
reader_line r waiting counts =
    codes "reader " ++ decimal r ++ codes " waiting " ++ decimal waiting ++ fault_words counts
    ++ codes "\n"

-- ---- many of them

abbrev pub not_now_unless : Bool → ℕ → List ℕ
not_now_unless true line = []
not_now_unless false line = not_now_line line

-- of these events, which come one after another, those that are not allowed
abbrev pub not_now_lines : Configuration → WorldState → List NumberedEvent → List ℕ
not_now_lines c w [] = []
not_now_lines c w (e ∷ events) =
    not_now_unless (is_allowed relay_reading c w e.event) e.line
    ++ not_now_lines c (after relay_reading c w e.event) events

-- of connections; the first has this number
abbrev pub handed_lines : HandedForm → ℕ → ℕ → List (List ℕ) → List ℕ
handed_lines form d connection [] = []
handed_lines form d connection (bytes ∷ others) =
    handed_line form d connection bytes ++ handed_lines form d (connection + 1) others

-- the texts of the numbers below n, one after another
abbrev pub of_each : (ℕ → List ℕ) → ℕ → List ℕ
of_each text zero = []
of_each text (suc n) = of_each text n ++ text n

-- destinations, the first with this number, each with the counts of its number
abbrev pub with_counts : (ℕ → Counts) → ℕ → List Destination → List (Destination × Counts)
with_counts counts d [] = []
with_counts counts d (dest ∷ others) = (dest, counts d) ∷ with_counts counts (d + 1) others

-- ---- the whole

abbrev pub events_of : List NumberedEvent → List RunEvent
events_of events = map (λ e. e.event) events

-- of a run: what was handed to each destination, the report, and each reader
abbrev pub handed_text : HandedForm → Run → ℕ → List ℕ
handed_text form run d = handed_lines form d 0 (dest_in relay_reading run d).connections

abbrev pub counts_text : Run → List Destination → List ℕ
counts_text run dests =
    report_text (with_counts (λ d. counts_of (dest_in relay_reading run d).queue) 0 dests)

abbrev pub reader_text : Plan → Run → ℕ → List ℕ
reader_text plan run r =
    reader_line r
    (length (waiting_of relay_reading run.configuration (reader_in relay_reading run r)))
    (counts_read plan (reader_in relay_reading run r))

-- the run of a script
abbrev pub run_of_script : Plan → ℕ → ℕ → ScriptText → Run
run_of_script plan size limit script = run_of plan size limit script.kinds (events_of script.events)

-- what a run of destinations and this number of readers has come to
abbrev pub end_text : HandedForm → Plan → List Destination → ℕ → Run → List ℕ
end_text form plan dests readers run =
    of_each (handed_text form run) (length dests)
    ++ counts_text run dests
    ++ of_each (reader_text plan run) readers

abbrev pub text_of_run : HandedForm → Plan → List Destination → ScriptText → Run → List ℕ
text_of_run form plan dests script run =
    not_now_lines run.configuration (start_of relay_reading run) script.events
    ++ end_text form plan dests (length script.kinds) run

-- what a replay writes, of a plan, queues of this size, batches of this limit, these destinations and a script
abbrev pub replay_text : HandedForm → Plan → ℕ → ℕ → List Destination → ScriptText → List ℕ
replay_text form plan size limit dests script =
    text_of_run form plan dests script (run_of_script plan size limit script)
