-- What holds of what readers were fed and offered.
use Rattle.std.specs.Prelude.{◌≡◌, ℕ, List, [], ◌++◌}
use Rattle.router.specs.Plan.{Plan}
use Rattle.reader_core.specs.Configuration.{Dispatch}
use Rattle.reader_core.specs.Entries.{InputEntry}
use Rattle.reader_core.specs.Input.{fresh_input}
use Rattle.reader_core.specs.Kinds.{relay_reading}
use Rattle.reader_core.specs.PlanConfiguration.{configuration_of}
use Rattle.reader_core.specs.Reader.{ReaderModel, Represents}
use Rattle.reader_core.specs.declared.kind.ReaderKind.{ReaderKind}
use Rattle.reader_core.specs.Record.{all_dispatches, IsRecordOf}
use Rattle.dest_queue.specs.Numbered.{NumberedStep}
use Rattle.mio_loops.specs.Reading.{GoesOn}

-- what a reader does, and then goes on to do, is one list of each
abbrev pub GoesOnLaw : Type 0
GoesOnLaw =
    (plan : Plan) (entries more : List InputEntry) (made further : List Dispatch)
    (old between new : ReaderModel)
    → GoesOn plan entries made old between → GoesOn plan more further between new
    → GoesOn plan (entries ++ more) (made ++ further) old new

-- a reader with no input so far was fed these entries, and these of its offers were made: recorded
-- steps that are these offers are its record
abbrev pub RecordLaw : Type 0
RecordLaw =
    (plan : Plan) (size limit : ℕ) (kind : ReaderKind) (entries : List InputEntry)
    (made : List Dispatch) (old new : ReaderModel) (steps : List NumberedStep)
    → Represents old kind plan (fresh_input kind) [] → GoesOn plan entries made old new
    → all_dispatches steps ≡ made
    → IsRecordOf relay_reading (configuration_of plan size limit) kind entries steps
