-- What an offer does to the readers and the destinations that the code keeps.
use Rattle.std.specs.Prelude.{ℕ, Bool, not, ◌&&◌, nat_lt, if◌then◌else◌, List, [], ◌∷◌, length, slice_index_or, slice_set}
use Rattle.dest_queue.specs.Queue.{has_room}
use Rattle.reader_core.specs.Configuration.{Dispatch}
use Rattle.relay_core.specs.Destination.{Offered, fresh_destination}
use Rattle.relay_core.specs.WorldModel.{SizedDestination, with_sizes, sized_after}
use Rattle.relay_core.specs.declared.event.Answer.{Answer}
use Rattle.relay_core.specs.declared.event.Answer.TheVariants.{Done, Dropped}

-- the destination with that number; if there is none, one with nothing in it
abbrev pub sized_at : List SizedDestination → ℕ → SizedDestination
sized_at dests d = slice_index_or dests d (with_sizes 0 0 (fresh_destination 0))

-- a reader's offer goes to its destination, if that exists
abbrev pub dests_after_offer : ℕ → Dispatch → List SizedDestination → List SizedDestination
dests_after_offer r sent dests =
    slice_set dests sent.dest (sized_after (Offered r sent.point) (sized_at dests sent.dest))

-- it is dropped if the queue there is full
abbrev pub finds_full : List SizedDestination → ℕ → Bool
finds_full dests d =
    nat_lt d (length dests)
    && not (has_room (sized_at dests d).size (sized_at dests d).destination.queue)

abbrev pub offer_answer : List SizedDestination → Dispatch → Answer
offer_answer dests sent = if finds_full dests sent.dest then Dropped else Done

-- what holds for the first element; there is one
abbrev pub OfFirst : {X : Type 0} → List X → (X → Type 0) → Type 0
OfFirst [] P = ⊥
OfFirst (x ∷ xs) P = P x
