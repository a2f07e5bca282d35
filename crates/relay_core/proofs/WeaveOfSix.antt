-- A history of three steps and a log of four, and two of their weaves, computed from the definitions.
use Rattle.std.proofs.Common.{◌≡◌, ℕ, false, List, [], ◌∷◌, refl, pos}
use Rattle.std.specs.Prelude.{codes}
use Rattle.std.specs.Fmt.{digits}
use Rattle.line_text.specs.Datapoint.{Datapoint}
use Rattle.line_text.specs.Value.{units_of_one}
use Rattle.dest_queue.specs.RecordedStep.{RecordedStep, Offered, Took}
use Rattle.dest_queue.specs.declared.offer.Kept.TheVariants.{Queued}
use Rattle.relay_core.specs.Destination.{Destination, fresh_destination}
use Rattle.dest_writer.specs.Log.{LogEntry, UpEntry, TakeEntry, WroteEntry, DownEntry}
use Rattle.relay_core.specs.Weave.{WovenStep, Offering, Taking, Connecting, Writing, Losing, IsWeave, after_woven}

abbrev point : ℕ → Datapoint
point n = record { name = n ∷ []; value = pos units_of_one; time = 5 }

-- two datapoints are offered, and one is taken in between
abbrev history : List RecordedStep
history = Offered 0 0 (point 97) Queued ∷ Took 5 1 ∷ Offered 0 1 (point 98) Queued ∷ []

-- there is a connection, which takes the batch's line in part, and is lost
abbrev log : List LogEntry
log = UpEntry ∷ TakeEntry 5 1 ∷ WroteEntry 2 ∷ DownEntry ∷ []

-- the queue's steps as early as possible
abbrev queue_first : List WovenStep
queue_first = Offering 0 0 (point 97) Queued ∷ Connecting ∷ Taking 5 1 ∷ Offering 0 1 (point 98) Queued ∷ Writing 2 ∷ Losing ∷ []

-- the writer's steps as early as possible
abbrev writer_first : List WovenStep
writer_first = Connecting ∷ Offering 0 0 (point 97) Queued ∷ Taking 5 1 ∷ Writing 2 ∷ Losing ∷ Offering 0 1 (point 98) Queued ∷ []

pub queue_first_is : IsWeave history log queue_first
queue_first_is = record { of_queue = refl; of_writer = refl }

pub writer_first_is : IsWeave history log writer_first
writer_first_is = record { of_queue = refl; of_writer = refl }

-- what both leave: the first datapoint is in hand again, and the second is queued
abbrev left : Destination
left =
    record {
      queue = record { points = point 98 ∷ []; offered = 2; kept = 2; dropped = 0; taken = 1; next = 2 ∷ []; recorded = 3 };
      writer = record { hand = point 97 ∷ []; written = 0; up = false };
      connections = codes "a " ∷ [];
    }

pub queue_first_leaves : after_woven 2 (fresh_destination 1) queue_first ≡ left
unfolding digits
queue_first_leaves = refl

pub writer_first_leaves : after_woven 2 (fresh_destination 1) writer_first ≡ left
unfolding digits
writer_first_leaves = refl
