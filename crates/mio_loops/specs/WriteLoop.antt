-- A write loop: its destinations, and what its turn does.
use Rattle.std.specs.Prelude.{ℕ, ◌≡◌, ◌==◌, if◌then◌else◌, Bool, false, List, map, count_by, Option, None, Some}
use Rattle.std.specs.List.{list_any, slice_get}
use Rattle.std.specs.Option.{is_some}
use Rattle.relay_base.specs.declared.dest_id.DestId.{DestId}
use Rattle.line_text.specs.Datapoint.{Datapoint}
use Rattle.dest_writer.specs.declared.counting.Counting.{Counting}
use Rattle.dest_writer.specs.Writer.{fresh_writer, writer_after_up, writer_after_down}
use Rattle.dest_writer.specs.Log.{UpEntry, DownEntry}
use Rattle.queue_records.specs.Takes.{TakesMade}
use Rattle.mio_loops.specs.declared.write_report.WriteReport.{WriteReport}
use Rattle.mio_loops.specs.WriteAnswers.{has_failed}
use Rattle.mio_loops.specs.OutgoingState.{OutgoingState}
use Rattle.mio_loops.specs.WriterLog.{empty_log, log_after}
use Rattle.mio_loops.specs.WriteTurn.{TurnAt, AreTurns}

module _ {W : Type 0} where
  -- a destination that never had a connection, with this limit of a batch
  abbrev pub fresh_outgoing : ℕ → OutgoingState W
  fresh_outgoing limit =
      record { limit = limit; writer = fresh_writer; sink = None; log = empty_log; last = None }

  -- a destination with a new connection, which was not driven yet
  abbrev pub with_connection : Counting W → OutgoingState W → OutgoingState W
  with_connection held o =
      record o {
        writer = writer_after_up o.writer;
        sink = Some held;
        log = log_after UpEntry o.log;
        last = None;
      }

  -- a destination that lost its connection
  abbrev pub without_connection : OutgoingState W → OutgoingState W
  without_connection o =
      record o {
        writer = writer_after_down o.writer;
        sink = None;
        log = log_after DownEntry o.log;
        last = None;
      }

  -- the connection, if any, is lost
  abbrev pub detached : OutgoingState W → OutgoingState W
  detached o = if o.writer.up then without_connection o else o

  -- there is such a destination, and it has a connection
  abbrev pub is_up_of : Option (OutgoingState W) → Bool
  is_up_of None = false
  is_up_of (Some o) = o.writer.up

  abbrev pub is_up_at : List (OutgoingState W) → ℕ → Bool
  is_up_at os dest = is_up_of (slice_get os dest)

-- a destination is among those that are ready
abbrev pub is_among : List DestId → ℕ → Bool
is_among ready dest = list_any (λ r. r.0 == dest) ready

-- ---- a turn

module _ {W : Type 0} where
  -- the report's numbers are those of the turn's answers
  pub record IsReportOf (turns : List (TurnAt W)) (report : WriteReport) : Type 0 where
    pub served : report.served ≡ count_by (λ t. is_some t.answer) turns
    pub failed : report.failed ≡ count_by (λ t. has_failed t.answer) turns

  -- the destinations go from the one list to the other, each by its turn, in order
  pub record IsLoopTurn (contents : W → Option (List ℕ))
      (may_hand : TakesMade → ℕ → ℕ → List Datapoint → Type 0) (ready : ℕ → Bool) (turns : List (TurnAt W)) (olds news : List (OutgoingState W)) (before after : TakesMade) : Type 0 where
    pub old : map (λ t. t.old) turns ≡ olds
    pub new : map (λ t. t.new) turns ≡ news
    pub in_order : AreTurns contents may_hand ready 0 turns before after
