-- A reader: what it keeps, and what it represents.
use Rattle.std.specs.Prelude.{◌≡◌, Bool, true, false, List, [], ◌∷◌, ◌++◌, length, Option, Some, None}
use Rattle.line_text.specs.Line.{count_of}
use Rattle.router.specs.Plan.{Plan}
use Rattle.reader_counts.specs.declared.totals.ReaderTotals.{ReaderTotals}
use Rattle.reader_core.specs.Input.{Stream, current}
use Rattle.reader_core.specs.Kinds.{relay_reading, bad_lines_of, bad_pickles_of, bad_rows_of}
use Rattle.reader_core.specs.Reading.{accepted_of}
use Rattle.reader_core.specs.Configuration.{Dispatch}
use Rattle.reader_core.specs.Offers.{offers_of, bad_names_of}
use Rattle.reader_core.specs.Scan.{kind_of, Keeps}
use Rattle.reader_core.specs.Scan as scans
use Rattle.reader_core.specs.declared.fault.FeedFault.{FeedFault}
use Rattle.reader_core.specs.declared.fault.FeedFault.TheVariants.{Closed, Waiting, NoMemory}
use Rattle.reader_core.specs.declared.kind.ReaderKind.{ReaderKind}
use Rattle.reader_core.specs.declared.scan.Scan.{Scan}

pub record ReaderModel : Type 0 where
  -- what is kept of the current connection
  pub scan : Scan
  -- what was counted of all input
  pub totals : ReaderTotals
  -- the offers that wait, the first one first
  pub waiting : List Dispatch

-- what is kept after this input was fed under this plan and these offers were taken out
pub record Represents (s : ReaderModel) (k : ReaderKind) (plan : Plan) (input : List Stream)
    (taken : List Dispatch) : Type 0 where
  pub kind : kind_of s.scan ≡ k
  pub keeps : Keeps s.scan (current input)
  -- the offers of the whole input are those that were taken out, and then those that wait
  pub waiting : offers_of plan k input ≡ taken ++ s.waiting
  -- the accepted datapoints of the whole input, with those that rewriting dropped
  pub datapoints : s.totals.datapoints ≡ count_of (length (accepted_of relay_reading k input))
  pub bad_lines : s.totals.faults.bad_lines ≡ count_of (bad_lines_of k input)
  pub bad_pickles : s.totals.faults.bad_pickles ≡ count_of (bad_pickles_of k input)
  pub bad_rows : s.totals.faults.bad_rows ≡ count_of (bad_rows_of k input)
  pub bad_names : s.totals.faults.bad_names ≡ count_of (bad_names_of plan k input)

-- whether nothing more of the connection is read
abbrev pub is_closed : ReaderModel → Bool
is_closed s = scans.is_closed s.scan

abbrev pub refusal_of : Bool → List Dispatch → Option FeedFault
refusal_of true waiting = Some Closed
refusal_of false [] = None
refusal_of false (first ∷ others) = Some Waiting

-- why no piece is taken now, memory aside: the connection is closed, or offers wait
abbrev pub refusal : ReaderModel → Option FeedFault
refusal s = refusal_of (is_closed s) s.waiting

-- the fault is that refusal; or out of memory, if there is no refusal
abbrev pub IsRefusal : ReaderModel → FeedFault → Type 0
IsRefusal s NoMemory = refusal s ≡ None
IsRefusal s fault = refusal s ≡ Some fault
