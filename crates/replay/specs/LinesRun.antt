-- The run of lines without a script, and its text.
use Rattle.std.specs.Prelude.{ℕ, zero, suc, ◌/◌, List, [], ◌∷◌, ◌++◌, length}
use Rattle.conf_text.specs.Destination.{Destination}
use Rattle.router.specs.Plan.{Plan}
use Rattle.reader_core.specs.Kinds.{relay_reading}
use Rattle.reader_core.specs.declared.kind.ReaderKind.TheVariants.{Line}
use Rattle.relay_core.specs.World.{RunEvent, Piece, End, Offer, Take, Up, Wrote, waiting_of}
use Rattle.relay_core.specs.Run.{Run, reader_in}
use Rattle.relay_core.specs.Relay.{run_of}
use Rattle.replay.specs.declared.handed_form.HandedForm.{HandedForm}
use Rattle.replay.specs.RunText.{end_text}

-- the events of the numbers below n, one after another
abbrev pub each_of : (ℕ → List RunEvent) → ℕ → List RunEvent
each_of events zero = []
each_of events (suc n) = each_of events n ++ events n

-- ---- what is tried; an event that is not allowed is no part of the run

-- the part of a batch that is tried after this many others: half of the one before
abbrev pub part_after : ℕ → ℕ
part_after zero = 16384
part_after (suc n) = part_after n / 2

-- a destination writes its batch, in parts that add up to any number of bytes up to 32,767
abbrev pub writes_to : ℕ → List RunEvent
writes_to d = each_of (λ n. Wrote d (part_after n) ∷ []) 15

-- it takes a batch and writes it
abbrev pub hands_to : ℕ → List RunEvent
hands_to d = (Take d ∷ []) ++ writes_to d

-- the reader makes an offer, and all destinations take what they have and write it
abbrev pub sends_of : ℕ → List RunEvent
sends_of dests = (Offer 0 ∷ []) ++ each_of hands_to dests

-- all destinations get a connection, and the reader the lines
abbrev pub opening : ℕ → List ℕ → List RunEvent
opening dests lines = each_of (λ d. Up d ∷ []) dests ++ Piece 0 lines 0 ∷ []

abbrev pub events_of_lines : ℕ → List ℕ → ℕ → List RunEvent
events_of_lines dests lines offers =
    (opening dests lines ++ each_of (λ n. sends_of dests) offers) ++ End 0 ∷ []

-- ---- the run

module _ (plan : Plan) (size limit dests : ℕ) (lines : List ℕ) where
  -- how many offers wait after the lines
  abbrev pub offers_of_lines : ℕ
  offers_of_lines =
      let run = run_of plan size limit (Line ∷ []) (opening dests lines) in
      length (waiting_of relay_reading run.configuration (reader_in relay_reading run 0))

  abbrev pub run_of_lines : Run
  run_of_lines =
      run_of plan size limit (Line ∷ []) (events_of_lines dests lines offers_of_lines)

-- what a replay of lines writes
abbrev pub lines_text : HandedForm → Plan → ℕ → ℕ → List Destination → List ℕ → List ℕ
lines_text form plan size limit dests lines =
    end_text form plan dests 1 (run_of_lines plan size limit (length dests) lines)
