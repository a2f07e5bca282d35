use Rattle.std.proofs.Common.{◌≡◌, ◌≤◌, ◌<◌, ◌++◌, List, [], length, true, false}
use Rattle.dest_writer.specs.Counting.{counts_of, stream_of, raised_by}
use Rattle.reader_core.specs.Configuration.{Dispatch}
use Rattle.reader_core.specs.Entries.{InputEntry}
use Rattle.reader_core.specs.Reader.{is_closed}
use Rattle.mio_loops.specs.Reading.{ReaderProgress}
use Rattle.mio_loops.specs.Serving.{WasRead, are_reads, fits_last, most_read}
use Rattle.mio_loops.specs.declared.served.Served.TheVariants.{Again}
use Rattle.mio_loops.proofs.serve.serve_reads.Given as goal

-- the reads made so far, and all offers of what they gave
abbrev pub invariant-loop : goal.invariant-loop
invariant-loop g l = record {
  went : (pieces : List InputEntry) × (made : List Dispatch)
      × ReaderProgress l.fn.plan l.fn.turn.number pieces made l.fn.reader l.reader (g.D.Door.record_of l.fn.door) (g.D.Door.record_of l.door) l.fn.room.log l.room.log
      × WasRead (g.S.Read.remaining (stream_of l.fn.source)) (g.S.Read.remaining (stream_of l.source)) pieces Again
      × (are_reads l.fn.turn.moment pieces ≡ true)
      × (others : List Dispatch) × (made ≡ l.fn.reader.waiting ++ others);
  waits : l.reader.waiting ≡ [];
  goes_on : is_closed l.reader ≡ false;
  dests : l.fn.plan.destinations ≤ length (g.D.Door.record_of l.door).totals;
  plan : l.plan ≡ l.fn.plan;
  room : length l.room.buffer.items ≡ most_read;
  calls : 0 < l.counter → (counts_of l.source).calls ≡ raised_by l.counter (counts_of l.fn.source).calls;
  unread : l.counter ≡ 0 → (counts_of l.source).calls ≡ (counts_of l.fn.source).calls;
  outcome : 0 < l.counter → fits_last Again (counts_of l.source).last ≡ true;
  failures : (counts_of l.source).failures ≡ (counts_of l.fn.source).failures;
}
