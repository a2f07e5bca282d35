-- What holds for every run.
use Rattle.std.specs.Prelude.{ℕ, ◌≡◌, ◌<◌, List, [], ◌∷◌, ◌++◌, length, take, slice_get}
use Rattle.line_text.specs.Datapoint.{Datapoint}
use Rattle.line_text.specs.Print.{printed_line, printed_lines}
use Rattle.dest_writer.specs.Writer.{unfinished_points}
use Rattle.reader_core.specs.Reading.{Reading, IsOrderly}
use Rattle.reader_core.specs.Configuration.{RoutesOnce}
use Rattle.relay_core.specs.Run.{Run, dest_in, points_in, offered_in, waiting_in, kept_in, handed_in}

-- each reader has offered a destination, in order, a first part of what it has for it, and the rest
-- waits
abbrev pub OffersPrefix : Reading → Run → Type 0
OffersPrefix reading run =
    (r d : ℕ) → offered_in reading run r d ++ waiting_in reading run r d ≡ points_in reading run r d

-- the k-th offer of a reader at a destination carries the k-th point that the reader has for it
abbrev pub CarriesInOrder : Reading → Run → Type 0
CarriesInOrder reading run =
    (r d k : ℕ) → k < length (offered_in reading run r d)
    → slice_get (offered_in reading run r d) k ≡ slice_get (points_in reading run r d) k

-- what a queue kept was handed over, in order, and the rest is still queued
abbrev pub HandsOverKept : Reading → Run → Type 0
HandsOverKept reading run =
    (d : ℕ) → d < run.configuration.destinations
    → kept_in reading run d ≡ handed_in reading run d ++ (dest_in reading run d).queue.points

-- the first bytes of the first point's line, not all of them; nothing if there is no point
abbrev pub IsPartOfFirst : List ℕ → List Datapoint → Type 0
IsPartOfFirst part [] = part ≡ []
IsPartOfFirst part (point ∷ points) =
    (count : ℕ) × (count < length (printed_line point)) × (part ≡ take count (printed_line point))

-- each connection got the lines of the next points whole, and then a part of the line after them;
-- what follows the points of the last connection is the rest
abbrev pub GotLines : List (List ℕ) → List Datapoint → List Datapoint → Type 0
GotLines [] points rest = points ≡ rest
GotLines (bytes ∷ connections) points rest =
    (whole others : List Datapoint) × (part : List ℕ)
    × (points ≡ whole ++ others) × (bytes ≡ printed_lines whole ++ part) × IsPartOfFirst part others
    × GotLines connections others rest

-- the kept points are those that were written whole, in order, each once, then those in hand that
-- were not, then those queued
abbrev pub WritesWhole : Reading → Run → Type 0
WritesWhole reading run =
    (d : ℕ) → d < run.configuration.destinations
    → GotLines (dest_in reading run d).connections (kept_in reading run d)
    (unfinished_points (dest_in reading run d).writer.written (dest_in reading run d).writer.hand
    ++ (dest_in reading run d).queue.points)

-- ---- the laws of any relay

-- for every way of reading that is orderly, every configuration that routes once, all readers and
-- all events
abbrev pub AnyOffersPrefixLaw : Type 0
AnyOffersPrefixLaw =
    (reading : Reading) → IsOrderly reading → (run : Run) → RoutesOnce run.configuration
    → OffersPrefix reading run

abbrev pub AnyCarriesInOrderLaw : Type 0
AnyCarriesInOrderLaw =
    (reading : Reading) → IsOrderly reading → (run : Run) → RoutesOnce run.configuration
    → CarriesInOrder reading run

-- for every way of reading, every configuration, all readers and all events
abbrev pub AnyHandsOverKeptLaw : Type 0
AnyHandsOverKeptLaw = (reading : Reading) (run : Run) → HandsOverKept reading run

abbrev pub AnyWritesWholeLaw : Type 0
AnyWritesWholeLaw = (reading : Reading) (run : Run) → WritesWhole reading run
