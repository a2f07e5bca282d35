-- One destination: its queue, its writer, and what its connections got.
use Rattle.std.specs.Prelude.{ℕ, Bool, true, not, ◌&&◌, nat_le, List, [], ◌∷◌, ◌++◌}
use Rattle.line_text.specs.Datapoint.{Datapoint}
use Rattle.dest_queue.specs.Queue.{Queue, empty_queue, queue_after_offer, queue_after_take, batch}
use Rattle.dest_writer.specs.Writer.{WriterState, fresh_writer, wants_batch, left, bytes_written, writer_after_up, writer_after_take, writer_after_write, writer_after_down}

pub record Destination : Type 0 where
  pub queue : Queue
  pub writer : WriterState
  -- what each connection got, the newest connection last
  pub connections : List (List ℕ)

-- the last connection gets these bytes too
abbrev pub with_more_bytes : List ℕ → List (List ℕ) → List (List ℕ)
with_more_bytes bytes [] = []
with_more_bytes bytes (last ∷ []) = (last ++ bytes) ∷ []
with_more_bytes bytes (first ∷ second ∷ others) = first ∷ with_more_bytes bytes (second ∷ others)

-- what may happen at a destination
pub data Act : Type 0 where
  -- a reader offers a point to the queue
  Offered : (reader : ℕ) (point : Datapoint) → Act
  -- the writer takes a batch from the queue
  Taken : Act
  -- there is a new connection
  Connected : Act
  -- the connection took this number of bytes
  Written : (count : ℕ) → Act
  -- the connection is lost
  Lost : Act

-- at first nothing is queued and there is no connection
abbrev pub fresh_destination : ℕ → Destination
fresh_destination readers =
    record { queue = empty_queue readers; writer = fresh_writer; connections = [] }

-- an offer always, a batch if the writer wants one, a connection if there is none, bytes if they
-- are left
abbrev pub may_act : Destination → Act → Bool
may_act d (Offered reader point) = true
may_act d Taken = wants_batch d.writer
may_act d Connected = not d.writer.up
may_act d (Written count) = d.writer.up && nat_le count (left d.writer)
may_act d Lost = d.writer.up

-- what an act that may happen leaves, at a queue of this size and with batches of this limit
abbrev pub dest_after : ℕ → ℕ → Destination → Act → Destination
dest_after size limit d (Offered reader point) =
    record d { queue = queue_after_offer size reader point d.queue }
dest_after size limit d Taken =
    record d {
      queue = queue_after_take limit d.queue;
      writer = writer_after_take (batch limit d.queue) d.writer;
    }
dest_after size limit d Connected =
    record d { writer = writer_after_up d.writer; connections = d.connections ++ [] ∷ [] }
dest_after size limit d (Written count) =
    record d {
      writer = writer_after_write count d.writer;
      connections = with_more_bytes (bytes_written count d.writer) d.connections;
    }
dest_after size limit d Lost = record d { writer = writer_after_down d.writer }

-- one act after another
abbrev pub dest_after_all : ℕ → ℕ → Destination → List Act → Destination
dest_after_all size limit d [] = d
dest_after_all size limit d (act ∷ acts) =
    dest_after_all size limit (dest_after size limit d act) acts
