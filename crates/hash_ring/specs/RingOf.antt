-- The ring of a list of destinations.
use Rattle.std.specs.Prelude.{List}
use Rattle.conf_text.specs.Destination.{Destination}
use Rattle.hash_ring.specs.Entry.{Ring}
use Rattle.hash_ring.specs.Placing.{entries_of}
use Rattle.hash_ring.specs.Servers.{servers_of}
use Rattle.hash_ring.specs.Walk.{in_rising_order}

-- their entries in rising order, each node on the server of its host
abbrev pub ring_of : List Destination → Ring
ring_of destinations = record {
  entries = in_rising_order (entries_of destinations);
  servers = servers_of destinations;
}
