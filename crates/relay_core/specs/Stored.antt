-- What the fields of a `Destination` and of a `World` mean, and what holds for them.
use Rattle.std.specs.Prelude.{ℕ, ◌≡◌, ◌≤◌, [], length, map}
use Rattle.std.specs.List.{All}
use Rattle.relay_core.specs.WorldModel.{SizedDestination, WorldModel}
use Rattle.relay_core.specs.declared.destination.Destination.TheInside as destinations
use Rattle.relay_core.specs.declared.world.World.TheInside as worlds

abbrev pub sized_destination_of : destinations.Inside → SizedDestination
sized_destination_of a =
    record {
      size = a.queue.size;
      limit = a.limit;
      destination = record {
        queue = a.queue.queue;
        writer = a.writer.writer;
        connections = map (λ c. c.items) a.connections.items;
      };
    }

pub record HandsOver (a : destinations.Inside) : Type 0 where
  pub limit : 1 ≤ a.limit
  -- between two acts the lent hand is empty, with room for a batch
  pub hand : a.hand.points ≡ []
  pub room : a.limit ≤ a.hand.room
  pub writer : a.writer.limit ≡ a.limit

abbrev pub world_model_of : worlds.Inside → WorldModel
world_model_of a =
    record {
      plan = a.plan;
      readers = a.readers.items;
      destinations = a.destinations.items;
      events = a.events;
    }

-- the queue has this number of readers, and no more datapoints were offered than events happened
pub record TakesOffers (readers events : ℕ) (s : SizedDestination) : Type 0 where
  pub has_all : length s.destination.queue.next ≡ readers
  pub counted : s.destination.queue.offered ≤ events

abbrev pub IsSound : worlds.Inside → Type 0
IsSound a = All (TakesOffers (length a.readers.items) a.events) a.destinations.items
