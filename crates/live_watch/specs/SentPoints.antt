-- What a plan sends of datapoints.
use Rattle.std.specs.Prelude.{◌≡◌, List, map}
use Rattle.line_text.specs.Datapoint.{Datapoint}
use Rattle.router.specs.Plan.{Plan, Sent, sent_by}
use Rattle.live_watch.specs.Agreement.{AreTo}
use Rattle.live_watch.specs.declared.batch.NotedOffer.{NotedOffer}
use Rattle.live_watch.specs.declared.found.Found.{Found}

-- what it sends of each datapoint that was found
abbrev pub all_sent : Plan → List Found → List Sent
all_sent plan found = map (λ one. sent_by plan one.point) found

-- this is sent of a datapoint by a plan, and it was offered to just these destinations
abbrev pub IsSentAndOffered : Plan → Datapoint → Sent → List NotedOffer → Type 0
IsSentAndOffered plan point sent offers = (sent ≡ sent_by plan point) × AreTo offers sent.dests
