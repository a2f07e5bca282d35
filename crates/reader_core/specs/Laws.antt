-- What holds for the definitions.
use Rattle.std.specs.Prelude.{◌≡◌, List}
use Rattle.router.specs.Plan.{Plan}
use Rattle.reader_core.specs.Input.{Stream, current}
use Rattle.reader_core.specs.Reading.{IsOrderly}
use Rattle.reader_core.specs.Kinds.{closes, relay_reading}
use Rattle.reader_core.specs.Configuration.{Dispatch}
use Rattle.reader_core.specs.Reader.{ReaderModel, Represents, is_closed}
use Rattle.reader_core.specs.declared.kind.ReaderKind.{ReaderKind}

-- as the relay reads, more bytes on a connection only add datapoints
abbrev pub OrderlyLaw : Type 0
OrderlyLaw = IsOrderly relay_reading

-- a reader is closed exactly if its current connection is
abbrev pub ClosedLaw : Type 0
ClosedLaw =
    (s : ReaderModel) (kind : ReaderKind) (plan : Plan) (input : List Stream) (taken : List Dispatch)
    → Represents s kind plan input taken → is_closed s ≡ closes kind (current input)
