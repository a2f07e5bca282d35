-- What an event of the code is in a run, and how it is answered there.
use Rattle.std.specs.Prelude.{ℕ, ◌≡◌, ◌⊎◌, Bool, not, ◌&&◌, nat_lt, if◌then◌else◌, length, Option, Some, None}
use Rattle.dest_queue.specs.Queue.{has_room}
use Rattle.reader_core.specs.Reading.{Reading}
use Rattle.reader_core.specs.Configuration.{Configuration}
use Rattle.relay_core.specs.Destination.{Act, Offered, Taken, Connected, Written, Lost}
use Rattle.relay_core.specs.World.{WorldState, RunEvent, ActAt, dest_at, step_of, is_allowed}
use Rattle.relay_core.specs.World as worlds
use Rattle.relay_core.specs.declared.event.Event.{Event}
use Rattle.relay_core.specs.declared.event.Event.TheVariants.{Piece, End, Offer, Take, Up, Wrote, Down}
use Rattle.relay_core.specs.declared.event.Answer.{Answer}
use Rattle.relay_core.specs.declared.event.Answer.TheVariants.{Done, Dropped, NotNow}

abbrev pub run_event : Event → RunEvent
run_event (Piece reader bytes moment) = worlds.Piece reader bytes.now moment
run_event (End reader) = worlds.End reader
run_event (Offer reader) = worlds.Offer reader
run_event (Take dest) = worlds.Take dest
run_event (Up dest) = worlds.Up dest
run_event (Wrote dest count) = worlds.Wrote dest count
run_event (Down dest) = worlds.Down dest

-- the event happened
abbrev pub Happened : Answer → Type 0
Happened answer = (answer ≡ Done) ⊎ (answer ≡ Dropped)

-- the destination exists, and its queue, of this size, is full
abbrev pub is_full : ℕ → WorldState → ℕ → Bool
is_full size w d = nat_lt d (length w.destinations) && not (has_room size (dest_at w d).queue)

-- an offer to a full queue is dropped
abbrev pub answer_of_act : ℕ → WorldState → ℕ → Act → Answer
answer_of_act size w d (Offered reader point) = if is_full size w d then Dropped else Done
answer_of_act size w d Taken = Done
answer_of_act size w d Connected = Done
answer_of_act size w d (Written count) = Done
answer_of_act size w d Lost = Done

abbrev pub answer_of_step : ℕ → WorldState → Option ActAt → Answer
answer_of_step size w None = Done
answer_of_step size w (Some step) = answer_of_act size w step.dest step.act

-- how an event is answered while events can be counted
abbrev pub answer_to : Reading → Configuration → WorldState → RunEvent → Answer
answer_to reading c w event =
    if is_allowed reading c w event
    then answer_of_step c.size w (step_of reading c w event)
    else NotNow
