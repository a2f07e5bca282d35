-- What the parts of a relay logged, each by itself, is one run of the whole if it agrees in an
-- order.
use Rattle.std.specs.Prelude.{ℕ, ◌≡◌, ◌<◌, Bool, true, false, ◌==◌, if◌then◌else◌, List, [], ◌∷◌, length, map, filter}
use Rattle.dest_queue.specs.Queue.{Queue, empty_queue}
use Rattle.dest_queue.specs.History.{Replays}
use Rattle.router.specs.Plan.{Plan}
use Rattle.reader_core.specs.Input.{fresh_input}
use Rattle.reader_core.specs.Reading.{Reading, IsOrderly}
use Rattle.reader_core.specs.Configuration.{Configuration}
use Rattle.reader_core.specs.Entries.{InputEntry, Piece, End, input_after_entries}
use Rattle.reader_core.specs.Kinds.{relay_reading}
use Rattle.reader_core.specs.PlanConfiguration.{configuration_of}
use Rattle.relay_core.specs.Destination.{Act, Offered, Taken, Connected, Written, Lost, fresh_destination}
use Rattle.relay_core.specs.World.{WorldState, RunEvent, ActAt, is_allowed, after}
use Rattle.relay_core.specs.World as worlds
use Rattle.relay_core.specs.Run.{Run, all_deeds, start_of, reader_in, dest_in, deeds_in}
use Rattle.relay_core.specs.Weave.{WovenStep, IsWeave, act_of, after_woven}
use Rattle.dest_queue.specs.Numbered.{NumberedStep, steps_in_order}
use Rattle.relay_core.specs.Logged.{Logged, kind_of, entries_of, history_of, log_of, record_of, AgreesInOrder}
use Rattle.relay_core.specs.Relay.{run_of}
use Rattle.relay_core.specs.RunOfOrder.{step_of_recorded, events_in_order, run_of_order}

-- each event is allowed when it happens
abbrev pub AreAllowed : Reading → Configuration → WorldState → List RunEvent → Type 0
AreAllowed reading c w [] = Unit {0}
AreAllowed reading c w (event ∷ events) =
    (is_allowed reading c w event ≡ true)
    × AreAllowed reading c (after reading c w event) events

-- what a reader is fed by these events, entry by entry
abbrev pub entries_in : ℕ → List RunEvent → List InputEntry
entries_in r [] = []
entries_in r (worlds.Piece q bytes moment ∷ events) =
    if q == r then Piece bytes moment ∷ entries_in r events else entries_in r events
entries_in r (worlds.End q ∷ events) =
    if q == r then End ∷ entries_in r events else entries_in r events
entries_in r (event ∷ events) = entries_in r events

-- an offer or a take
abbrev pub is_queue_act : Act → Bool
is_queue_act (Offered reader point) = true
is_queue_act Taken = true
is_queue_act Connected = false
is_queue_act (Written count) = false
is_queue_act Lost = false

-- the offers and takes of a run, in order, each with its destination
abbrev pub queue_acts_in : Reading → Run → List ActAt
queue_acts_in reading run =
    filter (λ step. is_queue_act step.act)
    (map (λ deed. record { dest = deed.dest; act = deed.act })
    (all_deeds reading run.configuration (start_of reading run) run.events))

abbrev pub queue_act_of : NumberedStep → ActAt
queue_act_of x = record { dest = x.dest; act = act_of (step_of_recorded x.step) }

-- the run has all that was logged, each part's in its order, and the steps of the queues in this
-- one
pub record HasAllLogged (reading : Reading) (l : Logged) (order : List ℕ) (run : Run) : Type 0 where
  pub allowed : AreAllowed reading run.configuration (start_of reading run) run.events
  -- its offers and takes are the steps of the histories, in the order
  pub in_order : queue_acts_in reading run ≡ map queue_act_of (steps_in_order l.histories order)
  -- each reader is fed its log
  pub inputs :
      (r : ℕ) → r < length l.kinds → entries_in r run.events ≡ entries_of l r
  -- at the end its input is the log's, and it has made the offers of its record
  pub readers :
      (r : ℕ) → r < length l.kinds
      → reader_in reading run r
      ≡ record {
        kind = kind_of l r;
        input = input_after_entries (kind_of l r) (entries_of l r) (fresh_input (kind_of l r));
        made = length (record_of l r);
      }
  -- what was done at each destination is a weave of its history and its writer's log
  pub steps :
      (d : ℕ) → d < run.configuration.destinations
      → (steps : List WovenStep) × IsWeave (history_of l d) (log_of l d) steps
      × (map (λ deed. deed.act) (deeds_in reading run d) ≡ map act_of steps)
  -- whichever weave is taken, it leaves the destination as it is at the end
  pub destinations :
      (d : ℕ) → d < run.configuration.destinations → (steps : List WovenStep)
      → IsWeave (history_of l d) (log_of l d) steps
      → dest_in reading run d
      ≡ after_woven run.configuration.size (fresh_destination (length l.kinds)) steps
  -- with the queue to which the history leads
  pub queues :
      (d : ℕ) → d < run.configuration.destinations → (end : Queue)
      → Replays run.configuration.size (empty_queue (length l.kinds)) (history_of l d) end
      → (dest_in reading run d).queue ≡ end

-- for every way of reading that is orderly, and every configuration
abbrev pub AnyOneRunLaw : Type 0
AnyOneRunLaw =
    (reading : Reading) → IsOrderly reading
    → (c : Configuration) (l : Logged) (order : List ℕ) → AgreesInOrder reading c l order
    → HasAllLogged reading l order (run_of_order reading c l order)

-- for the relay as it reads, and each plan, queue size and batch limit
abbrev pub OneRunLaw : Type 0
OneRunLaw =
    (plan : Plan) (size limit : ℕ) (l : Logged) (order : List ℕ)
    → AgreesInOrder relay_reading (configuration_of plan size limit) l order
    → HasAllLogged relay_reading l order
    (run_of plan size limit l.kinds
    (events_in_order relay_reading (configuration_of plan size limit) l order))
