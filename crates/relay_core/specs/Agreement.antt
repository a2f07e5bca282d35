-- Two runs that agree at a destination, and what is then the same there.
use Rattle.std.specs.Prelude.{ℕ, ◌≡◌, ◌<◌, List, map}
use Rattle.dest_queue.specs.Counts.{counts_of}
use Rattle.reader_core.specs.Reading.{Reading, IsOrderly}
use Rattle.reader_core.specs.Configuration.{RoutesOnce}
use Rattle.relay_core.specs.Destination.{Act, Offered, Taken, Connected, Written, Lost}
use Rattle.relay_core.specs.World.{RunEvent, Offer, Take, Up, Wrote, Down}
use Rattle.relay_core.specs.Run.{Run, deeds_in, dest_in, points_in}

-- the event that an act at a destination is: an offer names its reader alone
abbrev pub event_of : ℕ → Act → RunEvent
event_of d (Offered reader point) = Offer reader
event_of d Taken = Take d
event_of d Connected = Up d
event_of d (Written count) = Wrote d count
event_of d Lost = Down d

-- the steps at a destination: the events of the run that name it, and the offers that were for it,
-- in order
abbrev pub steps_in : Reading → Run → ℕ → List RunEvent
steps_in reading run d = map (λ deed. event_of d deed.act) (deeds_in reading run d)

-- the destination is like the other, its steps are the same, and each reader has the same for it
pub record AgreesAt (reading : Reading) (d : ℕ) (a b : Run) : Type 0 where
  pub size : a.configuration.size ≡ b.configuration.size
  pub limit : a.configuration.limit ≡ b.configuration.limit
  pub steps : steps_in reading a d ≡ steps_in reading b d
  pub points : (r : ℕ) → points_in reading a r d ≡ points_in reading b r d

-- each connection got the same bytes, and the whole of the counts is the same
pub record SameAt (reading : Reading) (d : ℕ) (a b : Run) : Type 0 where
  pub handed : (dest_in reading a d).connections ≡ (dest_in reading b d).connections
  pub counts : counts_of (dest_in reading a d).queue ≡ counts_of (dest_in reading b d).queue

-- runs that agree at a destination have the same there, whatever else differs: configurations,
-- readers, cuts, other events; for every way of reading that is orderly and all configurations that
-- route once
abbrev pub AnyIsolatedLaw : Type 0
AnyIsolatedLaw =
    (reading : Reading) → IsOrderly reading
    → (a b : Run) → RoutesOnce a.configuration → RoutesOnce b.configuration
    → (d : ℕ) → d < a.configuration.destinations → d < b.configuration.destinations
    → AgreesAt reading d a b → SameAt reading d a b
