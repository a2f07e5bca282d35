-- Whether offers are those of a datapoint.
use Rattle.std.specs.Prelude.{◌≡◌, List, map}
use Rattle.live_watch.specs.declared.batch.NotedOffer.{NotedOffer}
use Rattle.relay_base.specs.declared.dest_id.DestId.{DestId}

-- one to each of these destinations, in their order
abbrev pub AreTo : List NotedOffer → List DestId → Type 0
AreTo offers dests = map (λ offer. offer.dest) offers ≡ map (λ dest. dest.0) dests
