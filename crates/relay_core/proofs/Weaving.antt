-- A weave, taken apart into what its queue's steps and its writer's steps leave.
use Rattle.std.proofs.Common.{◌≡◌, ℕ, List, [], ◌∷◌, ◌++◌, refl, sym, ap, ◌∙◌}
use Rattle.line_text.specs.Datapoint.{Datapoint}
use Rattle.dest_queue.specs.Queue.{Queue, batch}
use Rattle.dest_queue.specs.RecordedStep.{RecordedStep, Offered, Took}
use Rattle.dest_queue.specs.History.{Replays, queue_after_recorded}
use Rattle.dest_writer.specs.Writer.{WriterState, bytes_written, writer_after_up, writer_after_take, writer_after_write, writer_after_down}
use Rattle.relay_core.specs.Destination.{Destination, with_more_bytes, dest_after}
use Rattle.dest_writer.specs.Log.{LogEntry, UpEntry, TakeEntry, WroteEntry, DownEntry, takes_in_log}
use Rattle.relay_core.specs.Weave.{WovenStep, Offering, Taking, Connecting, Writing, Losing, queue_steps, writer_steps, IsWeave, act_of, after_woven, takes_in_history}

-- the queue after a history
abbrev queue_after_history : ℕ → Queue → List RecordedStep → Queue
queue_after_history size q [] = q
queue_after_history size q (step ∷ steps) = queue_after_history size (queue_after_recorded size q step) steps

-- the batches that a history's takes hand over
abbrev batches : ℕ → Queue → List RecordedStep → List (List Datapoint)
batches size q [] = []
batches size q (Offered reader number point kept ∷ steps) = batches size (queue_after_recorded size q (Offered reader number point kept)) steps
batches size q (Took limit taken ∷ steps) = batch limit q ∷ batches size (queue_after_recorded size q (Took limit taken)) steps

-- a writer, and what its connections got
record Outgoing : Type 0 where
  writer : WriterState
  connections : List (List ℕ)

abbrev outgoing_of : Destination → Outgoing
outgoing_of d = record { writer = d.writer; connections = d.connections }

-- both after a log whose takes get these batches
abbrev after_log : Outgoing → List LogEntry → List (List Datapoint) → Outgoing
after_log o [] taken = o
after_log o (UpEntry ∷ log) taken =
    after_log (record { writer = writer_after_up o.writer; connections = o.connections ++ [] ∷ [] }) log taken
after_log o (TakeEntry limit count ∷ log) [] = o
after_log o (TakeEntry limit count ∷ log) (points ∷ taken) =
    after_log (record { writer = writer_after_take points o.writer; connections = o.connections }) log taken
after_log o (WroteEntry count ∷ log) taken =
    after_log
    (record {
      writer = writer_after_write count o.writer;
      connections = with_more_bytes (bytes_written count o.writer) o.connections;
    })
    log taken
after_log o (DownEntry ∷ log) taken =
    after_log (record { writer = writer_after_down o.writer; connections = o.connections }) log taken

-- the two parts, each by its own steps
abbrev apart : ℕ → Destination → List RecordedStep → List LogEntry → Destination
apart size d history log =
    record {
      queue = queue_after_history size d.queue history;
      writer = (after_log (outgoing_of d) log (batches size d.queue history)).writer;
      connections = (after_log (outgoing_of d) log (batches size d.queue history)).connections;
    }

taken_apart : (size : ℕ) (d : Destination) (steps : List WovenStep) → after_woven size d steps ≡ apart size d (queue_steps steps) (writer_steps steps)
taken_apart size d [] = refl
taken_apart size d (Offering reader number point kept ∷ steps) = taken_apart size (dest_after size 0 d (act_of (Offering reader number point kept))) steps
taken_apart size d (Taking limit taken ∷ steps) = taken_apart size (dest_after size limit d (act_of (Taking limit taken))) steps
taken_apart size d (Connecting ∷ steps) = taken_apart size (dest_after size 0 d (act_of Connecting)) steps
taken_apart size d (Writing count ∷ steps) = taken_apart size (dest_after size 0 d (act_of (Writing count))) steps
taken_apart size d (Losing ∷ steps) = taken_apart size (dest_after size 0 d (act_of Losing)) steps

weave_is : (size : ℕ) (d : Destination) (history : List RecordedStep) (log : List LogEntry) (steps : List WovenStep)
    → IsWeave history log steps → after_woven size d steps ≡ apart size d history log
weave_is size d history log steps is =
    taken_apart size d steps ∙ (ap (λ h. apart size d h (writer_steps steps)) is.of_queue ∙ ap (apart size d history) is.of_writer)

pub one_weave : (size : ℕ) (d : Destination) (history : List RecordedStep) (log : List LogEntry) (a b : List WovenStep)
    → IsWeave history log a → IsWeave history log b → after_woven size d a ≡ after_woven size d b
one_weave size d history log a b of_a of_b = weave_is size d history log a of_a ∙ sym (weave_is size d history log b of_b)

replayed : (size : ℕ) (q end : Queue) (history : List RecordedStep) → Replays size q history end → queue_after_history size q history ≡ end
replayed size q end [] same = same
replayed size q end (step ∷ steps) goes = replayed size (queue_after_recorded size q step) end steps goes.1

pub weave_replays : (size : ℕ) (d : Destination) (end : Queue) (history : List RecordedStep) (log : List LogEntry) (steps : List WovenStep)
    → IsWeave history log steps → Replays size d.queue history end → (after_woven size d steps).queue ≡ end
weave_replays size d end history log steps is goes = ap (λ dest. dest.queue) (weave_is size d history log steps is) ∙ replayed size d.queue end history goes

takes_of_steps : (steps : List WovenStep) → takes_in_history (queue_steps steps) ≡ takes_in_log (writer_steps steps)
takes_of_steps [] = refl
takes_of_steps (Offering reader number point kept ∷ steps) = takes_of_steps steps
takes_of_steps (Taking limit taken ∷ steps) = ap (λ takes. record { limit = limit; taken = taken } ∷ takes) (takes_of_steps steps)
takes_of_steps (Connecting ∷ steps) = takes_of_steps steps
takes_of_steps (Writing count ∷ steps) = takes_of_steps steps
takes_of_steps (Losing ∷ steps) = takes_of_steps steps

pub same_takes : (history : List RecordedStep) (log : List LogEntry) (steps : List WovenStep) → IsWeave history log steps → takes_in_history history ≡ takes_in_log log
same_takes history log steps is = ap takes_in_history (sym is.of_queue) ∙ (takes_of_steps steps ∙ ap takes_in_log is.of_writer)
