-- Weaves: one list of steps made of a queue's history and a writer's log of the same destination.
use Rattle.std.specs.Prelude.{ℕ, ◌≡◌, List, [], ◌∷◌}
use Rattle.line_text.specs.Datapoint.{Datapoint}
use Rattle.dest_queue.specs.Queue.{Queue}
use Rattle.dest_queue.specs.RecordedStep.{RecordedStep, Offered, Took}
use Rattle.dest_queue.specs.History.{Replays}
use Rattle.dest_queue.specs.declared.offer.Kept.{Kept}
use Rattle.dest_writer.specs.Log.{LogEntry, UpEntry, TakeEntry, WroteEntry, DownEntry, Batch, takes_in_log}
use Rattle.relay_core.specs.Destination.{Destination, Act, Taken, Connected, Written, Lost, dest_after}
use Rattle.relay_core.specs.Destination.{Offered as OfferedAct}

-- a step of both: a take is in the history and in the log, each other step in one of them
pub data WovenStep : Type 0 where
  Offering : (reader : ℕ) (number : ℕ) (point : Datapoint) (kept : Kept) → WovenStep
  Taking : (limit : ℕ) (taken : ℕ) → WovenStep
  Connecting : WovenStep
  Writing : (count : ℕ) → WovenStep
  Losing : WovenStep

-- the steps of the queue alone, in order
abbrev pub queue_steps : List WovenStep → List RecordedStep
queue_steps [] = []
queue_steps (Offering reader number point kept ∷ steps) =
    Offered reader number point kept ∷ queue_steps steps
queue_steps (Taking limit taken ∷ steps) = Took limit taken ∷ queue_steps steps
queue_steps (Connecting ∷ steps) = queue_steps steps
queue_steps (Writing count ∷ steps) = queue_steps steps
queue_steps (Losing ∷ steps) = queue_steps steps

-- the steps of the writer alone, in order
abbrev pub writer_steps : List WovenStep → List LogEntry
writer_steps [] = []
writer_steps (Offering reader number point kept ∷ steps) = writer_steps steps
writer_steps (Taking limit taken ∷ steps) = TakeEntry limit taken ∷ writer_steps steps
writer_steps (Connecting ∷ steps) = UpEntry ∷ writer_steps steps
writer_steps (Writing count ∷ steps) = WroteEntry count ∷ writer_steps steps
writer_steps (Losing ∷ steps) = DownEntry ∷ writer_steps steps

-- the steps are those of the history and of the log, each in its order, and each take is one step
-- of both
pub record IsWeave (history : List RecordedStep) (log : List LogEntry)
    (steps : List WovenStep) : Type 0 where
  pub of_queue : queue_steps steps ≡ history
  pub of_writer : writer_steps steps ≡ log

-- ---- what a weave leaves

abbrev pub act_of : WovenStep → Act
act_of (Offering reader number point kept) = OfferedAct reader point
act_of (Taking limit taken) = Taken
act_of Connecting = Connected
act_of (Writing count) = Written count
act_of Losing = Lost

-- a take has its own limit, which no other step needs
abbrev pub limit_of : WovenStep → ℕ
limit_of (Offering reader number point kept) = 0
limit_of (Taking limit taken) = limit
limit_of Connecting = 0
limit_of (Writing count) = 0
limit_of Losing = 0

-- one step after another, at a queue of this size
abbrev pub after_woven : ℕ → Destination → List WovenStep → Destination
after_woven size d [] = d
after_woven size d (step ∷ steps) =
    after_woven size (dest_after size (limit_of step) d (act_of step)) steps

-- ---- takes

-- the takes of a history
abbrev pub takes_in_history : List RecordedStep → List Batch
takes_in_history [] = []
takes_in_history (Offered reader number point kept ∷ steps) = takes_in_history steps
takes_in_history (Took limit taken ∷ steps) =
    record { limit = limit; taken = taken } ∷ takes_in_history steps

-- ---- the laws

-- every weave of one history and one log leaves the same
abbrev pub OneWeaveLaw : Type 0
OneWeaveLaw =
    (size : ℕ) (start : Destination) (history : List RecordedStep) (log : List LogEntry)
    (a b : List WovenStep) → IsWeave history log a → IsWeave history log b
    → after_woven size start a ≡ after_woven size start b

-- what a history leads to is the queue that every weave of it leaves
abbrev pub WeaveReplaysLaw : Type 0
WeaveReplaysLaw =
    (size : ℕ) (start : Destination) (end : Queue) (history : List RecordedStep)
    (log : List LogEntry) (steps : List WovenStep)
    → IsWeave history log steps → Replays size start.queue history end
    → (after_woven size start steps).queue ≡ end

-- a history and a log that have a weave have the same takes
abbrev pub SameTakesLaw : Type 0
SameTakesLaw =
    (history : List RecordedStep) (log : List LogEntry) (steps : List WovenStep)
    → IsWeave history log steps → takes_in_history history ≡ takes_in_log log
