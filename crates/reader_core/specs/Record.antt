-- What a reader's record has: the offers that it made, and when they are those of its input.
use Rattle.std.specs.Prelude.{ℕ, ◌≡◌, ◌≤◌, false, ◌&&◌, List, [], ◌∷◌, ◌++◌, length, flat_map}
use Rattle.dest_queue.specs.Numbered.{NumberedStep}
use Rattle.dest_queue.specs.RecordedStep.{RecordedStep, Offered, Took}
use Rattle.reader_core.specs.Configuration.{Configuration, Dispatch, sends}
use Rattle.reader_core.specs.Entries.{InputEntry, Piece, End, input_after_entry, input_after_entries}
use Rattle.reader_core.specs.Input.{Stream, has_connections, fresh_input, current}
use Rattle.reader_core.specs.Reading.{Reading, accepted_of}
use Rattle.reader_core.specs.declared.kind.ReaderKind.{ReaderKind}

-- a recorded offer, as it was sent
abbrev pub dispatches_of : ℕ → RecordedStep → List Dispatch
dispatches_of dest (Offered reader number point kept) =
    record { dest = dest; point = point } ∷ []
dispatches_of dest (Took limit taken) = []

abbrev pub all_dispatches : List NumberedStep → List Dispatch
all_dispatches steps = flat_map (λ x. dispatches_of x.dest x.step) steps

module _ (reading : Reading) (c : Configuration) where
  -- all that the accepted datapoints of an input become, in order
  abbrev pub offers_on : ReaderKind → List Stream → List Dispatch
  offers_on kind input = flat_map (sends c) (accepted_of reading kind input)

  -- no piece follows one that closed its connection
  abbrev pub NoneAfterClosing : ReaderKind → List Stream → List InputEntry → Type 0
  NoneAfterClosing kind input [] = Unit {0}
  NoneAfterClosing kind input (Piece bytes moment ∷ entries) =
      ((has_connections kind && reading.closes kind (current input)) ≡ false)
      × NoneAfterClosing kind (input_after_entry kind (Piece bytes moment) input) entries
  NoneAfterClosing kind input (End ∷ entries) =
      NoneAfterClosing kind (input_after_entry kind End input) entries

  -- all that is sent before a piece is among this number of offers
  abbrev pub AreMadeBefore : ℕ → ReaderKind → List Stream → List InputEntry → Type 0
  AreMadeBefore made kind input [] = Unit {0}
  AreMadeBefore made kind input (Piece bytes moment ∷ entries) =
      (length (offers_on kind input) ≤ made)
      × AreMadeBefore made kind (input_after_entry kind (Piece bytes moment) input) entries
  AreMadeBefore made kind input (End ∷ entries) =
      AreMadeBefore made kind (input_after_entry kind End input) entries

  -- the record has the offers of the reader's input, in order; only offers of the last piece may be
  -- missing
  pub record IsRecordOf (kind : ReaderKind) (entries : List InputEntry)
      (made : List NumberedStep) : Type 0 where
    pub stays_open : NoneAfterClosing kind (fresh_input kind) entries
    pub lacking : List Dispatch
    pub offers :
        offers_on kind (input_after_entries kind entries (fresh_input kind))
        ≡ all_dispatches made ++ lacking
    pub of_last : AreMadeBefore (length made) kind (fresh_input kind) entries
