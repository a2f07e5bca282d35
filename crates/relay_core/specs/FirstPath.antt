-- The first path: line readers, one destination, and the route that sends every datapoint there
-- unchanged.
use Rattle.std.specs.Prelude.{ℕ, ◌≡◌, List, [], ◌∷◌, ◌++◌, map, flat_map, replicate, Some}
use Rattle.line_text.specs.Datapoint.{Datapoint}
use Rattle.line_text.specs.Connection.{accepted_points, is_closed}
use Rattle.reader_core.specs.declared.kind.ReaderKind.TheVariants.{Line}
use Rattle.reader_core.specs.Reading.{Reading}
use Rattle.reader_core.specs.Configuration.{Configuration}
use Rattle.relay_core.specs.World.{RunEvent, waiting_of}
use Rattle.relay_core.specs.Run.{Run, reader_in, dest_in, offered_in, kept_in, handed_in}

-- every reader reads lines
abbrev pub line_reading : Reading
line_reading = record {
  points = λ kind connection. accepted_points connection;
  closes = λ kind connection. is_closed connection;
}

-- every name is kept as it is, and goes to the one destination
abbrev pub all_to_one : ℕ → ℕ → Configuration
all_to_one size limit =
    record {
      rewrite = λ name. Some name;
      route = λ name. 0 ∷ [];
      destinations = 1;
      size = size;
      limit = limit;
    }

-- this number of line readers, and one queue of this size with batches of this limit
abbrev pub first_path : ℕ → ℕ → ℕ → List RunEvent → Run
first_path readers size limit events =
    record {
      configuration = all_to_one size limit;
      kinds = replicate readers Line;
      events = events;
    }

-- the accepted datapoints of a reader's whole input
abbrev pub accepted_in : Run → ℕ → List Datapoint
accepted_in run r = flat_map accepted_points (reader_in line_reading run r).input

-- all the points of a reader that wait
abbrev pub all_waiting : Run → ℕ → List Datapoint
all_waiting run r =
    map (λ s. s.point) (waiting_of line_reading run.configuration (reader_in line_reading run r))

-- each reader has offered, in order, a first part of the accepted datapoints of its whole input,
-- and the rest waits
abbrev pub OffersAccepted : Run → Type 0
OffersAccepted run =
    (r : ℕ) → offered_in line_reading run r 0 ++ all_waiting run r ≡ accepted_in run r

-- what the queue kept was handed over, in order, and the rest is still queued
abbrev pub HandsOverAll : Run → Type 0
HandsOverAll run = kept_in line_reading run 0 ≡ handed_in line_reading run 0
    ++ (dest_in line_reading run 0).queue.points

abbrev pub FirstPathLaw : Type 0
FirstPathLaw =
    (readers size limit : ℕ) (events : List RunEvent)
    → OffersAccepted (first_path readers size limit events)
    × HandsOverAll (first_path readers size limit events)
