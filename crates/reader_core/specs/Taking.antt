-- What taking a piece makes of a reader.
use Rattle.std.specs.Prelude.{◌≡◌, ℕ, List, ◌++◌, length}
use Rattle.line_text.specs.Datapoint.{Datapoint}
use Rattle.line_text.specs.Line.{count_of}
use Rattle.router.specs.Plan.{Plan}
use Rattle.reader_core.specs.Input.{Stream}
use Rattle.reader_core.specs.Kinds.{points_in}
use Rattle.reader_core.specs.Configuration.{Dispatch}
use Rattle.reader_core.specs.Offers.{offers_by, dropped_by}
use Rattle.reader_core.specs.Scan.{kind_of, Keeps, CountsFaults}
use Rattle.reader_counts.specs.declared.totals.ReaderTotals.{ReaderTotals}
use Rattle.reader_core.specs.declared.scan.Scan.{Scan}

-- these datapoints are what the stream gained, and the waiting offers and the drops are what they
-- become
pub record PointsSent (plan : Plan) (gained before after : List Datapoint) (offers : List Dispatch)
    (left_out : ℕ) : Type 0 where
  pub points : after ≡ before ++ gained
  pub waiting : offers ≡ offers_by plan gained
  pub dropped : left_out ≡ dropped_by plan gained

-- a piece that continues a stream was taken: what is kept, what waits, how many datapoints there were, and what was
-- wrong
pub record PieceTaken (old new : Scan) (plan : Plan) (before piece : Stream)
    (offers : List Dispatch) (reported : ReaderTotals) : Type 0 where
  pub kind : kind_of new ≡ kind_of old
  pub keeps : Keeps new (before ++ piece)
  pub gained : List Datapoint
  pub sent : PointsSent plan gained (points_in (kind_of old) before)
      (points_in (kind_of old) (before ++ piece)) offers reported.faults.bad_names
  pub datapoints : reported.datapoints ≡ count_of (length gained)
  pub faults : CountsFaults (kind_of old) reported.faults before (before ++ piece)
